use Rattle.std.proofs.Common.{◌≡◌, map, take}
use Rattle.plan_views.specs.Bars.{row_of}
use Rattle.plan_cli.specs.OrderTables.{timed_bars}
use Rattle.plan_cli.proofs.order_tables.timed_lines.Given as goal

-- the rows so far
abbrev pub invariant-loop-row : goal.invariant-loop-row
invariant-loop-row l = map row_of l.made.items ≡ map timed_bars (map row_of (take l.row-index l.rows))
