use Rattle.std.proofs.Common.{◌≡◌, map, take}
use Rattle.plan_formats.specs.Tables.{cells_of}
use Rattle.plan_cli.specs.OwnTables.{own_cell_of}
use Rattle.plan_cli.proofs.own_tables.shown_row.Given as goal

-- the cells so far
abbrev pub invariant-loop-cell : goal.invariant-loop-cell
invariant-loop-cell l = cells_of l.row.items ≡ map own_cell_of (take l.cell-index l.own)
