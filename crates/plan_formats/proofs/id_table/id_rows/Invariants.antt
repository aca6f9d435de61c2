use Rattle.std.proofs.Common.{◌≡◌, map, take}
use Rattle.plan_table.specs.Names.{name_of}
use Rattle.plan_formats.specs.Tables.{rows_of}
use Rattle.plan_formats.specs.IdTables.{id_rows}
use Rattle.plan_formats.proofs.id_table.id_rows.Given as goal

-- the rows so far
abbrev pub invariant-loop-row : goal.invariant-loop-row
invariant-loop-row l = rows_of l.made.items ≡ id_rows (map name_of l.ids) (rows_of (take l.row-index l.rows))
