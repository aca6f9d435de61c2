use Rattle.std.proofs.Common.{◌≡◌, map, take}
use Rattle.plan_formats.specs.Tables.{rows_of}
use Rattle.plan_views.specs.Charts.{drawn_cells}
use Rattle.plan_views.proofs.chart_texts.rows.Given as goal

-- the cells of the rows so far
abbrev pub invariant-loop-row : goal.invariant-loop-row
invariant-loop-row l = rows_of l.rows.items ≡ map drawn_cells (take l.row-index l.drawn)
