use Rattle.std.proofs.Common.{◌≡◌, map, take}
use Rattle.plan_views.specs.Bars.{row_of}
use Rattle.plan_views.specs.Charts.{cells_row, drawn_cells}
use Rattle.plan_views.proofs.chart_texts.drawn_rows.Given as goal

-- the rows so far with their cells
abbrev pub invariant-loop-row : goal.invariant-loop-row
invariant-loop-row l = map drawn_cells l.rows.items ≡ map (cells_row l.chart.makespan) (map row_of (take l.row-index l.row-items))
