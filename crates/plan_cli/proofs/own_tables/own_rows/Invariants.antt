use Rattle.std.proofs.Common.{◌≡◌, take}
use Rattle.plan_formats.specs.Tables.{rows_of}
use Rattle.plan_cli.specs.OwnTables.{own_rows_of}
use Rattle.plan_cli.proofs.own_tables.own_rows.Given as goal

-- the rows so far
abbrev pub invariant-loop-row : goal.invariant-loop-row
invariant-loop-row l = own_rows_of l.own.items ≡ rows_of (take l.row-index l.rows)
