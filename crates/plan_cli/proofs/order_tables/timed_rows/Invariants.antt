use Rattle.std.proofs.Common.{◌≡◌, ◌++◌, drop, map}
use Rattle.plan_table.specs.Names.{name_of}
use Rattle.plan_formats.specs.Tables.{rows_of}
use Rattle.plan_cli.specs.OrderTables.{timed_rows}
use Rattle.plan_cli.proofs.order_tables.timed_rows.Given as goal

-- the rows so far, and behind them those that are left
abbrev pub invariant-loop-x : goal.invariant-loop-x
invariant-loop-x l =
    rows_of l.made.items ++ timed_rows (map name_of l.names) (drop l.x l.shop.steps) (rows_of (drop l.x l.rows))
    ≡ timed_rows (map name_of l.names) l.shop.steps (rows_of l.rows)
