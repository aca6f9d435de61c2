use Rattle.std.proofs.Common.{◌≡◌, map, take}
use Rattle.plan_formats.specs.Tables.{rows_of}
use Rattle.plan_views.specs.Bars.{row_of}
use Rattle.plan_views.specs.ChartData.{rows_bars}
use Rattle.plan_views.proofs.bar_tables.bars.Given as goal

-- the bars of the rows so far
abbrev pub invariant-loop-row : goal.invariant-loop-row
invariant-loop-row l = rows_of l.bars.items ≡ rows_bars (map row_of (take l.row-index l.rows))
