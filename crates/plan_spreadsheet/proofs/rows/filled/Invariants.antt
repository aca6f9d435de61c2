use Rattle.std.proofs.Common.{◌≡◌, map, take}
use Rattle.plan_table.specs.Csv.{row_of}
use Rattle.plan_spreadsheet.specs.Rows.{filled}
use Rattle.plan_spreadsheet.proofs.rows.filled.Given as goal

-- the rows with content so far
abbrev pub invariant-loop-row : goal.invariant-loop-row
invariant-loop-row l = map row_of l.copies.items ≡ filled (map row_of (take l.row-index l.rows))
