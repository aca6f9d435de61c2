use Rattle.std.proofs.Common.{◌≡◌, map, take}
use Rattle.plan_table.specs.Csv.{row_of}
use Rattle.plan_spreadsheet.proofs.rows.copy_rows.Given as goal

-- the rows so far
abbrev pub invariant-loop-row : goal.invariant-loop-row
invariant-loop-row l = map row_of l.copies.items ≡ map row_of (take l.row-index l.rows)
