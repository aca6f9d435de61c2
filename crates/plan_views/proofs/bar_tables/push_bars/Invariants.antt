use Rattle.std.proofs.Common.{◌≡◌, ◌++◌, map, take}
use Rattle.plan_formats.specs.Tables.{rows_of}
use Rattle.plan_views.specs.Bars.{bar_of}
use Rattle.plan_views.specs.ChartData.{bar_cells}
use Rattle.plan_views.proofs.bar_tables.push_bars.Given as goal

-- the bars so far follow the rows
abbrev pub invariant-loop-bar : goal.invariant-loop-bar
invariant-loop-bar l = rows_of l.rows.items ≡ rows_of l.fn.rows.items ++ map (bar_cells l.row.number) (map bar_of (take l.bar-index l.bar-items))
