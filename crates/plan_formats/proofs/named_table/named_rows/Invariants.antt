use Rattle.std.proofs.Common.{◌≡◌, map, take}
use Rattle.plan_table.specs.Names.{name_of}
use Rattle.plan_formats.specs.Tables.{rows_of}
use Rattle.plan_formats.specs.NamedTables.{with_name}
use Rattle.plan_formats.proofs.named_table.named_rows.Given as goal

-- the rows so far
abbrev pub invariant-loop-row : goal.invariant-loop-row
invariant-loop-row l = rows_of l.made.items ≡ map (with_name (map name_of l.names)) (rows_of (take l.row-index l.rows))
