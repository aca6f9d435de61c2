use Rattle.std.proofs.Common.{◌≡◌, map, drop}
use Rattle.plan_table.specs.Csv.{row_of}
use Rattle.plan_spreadsheet.specs.Rows.{same_rows}
use Rattle.plan_spreadsheet.proofs.rows.same_rows.Given as goal

-- the rows are the same if those that are left are
abbrev pub invariant-loop-row : goal.invariant-loop-row
invariant-loop-row l =
    same_rows (map row_of (drop l.row-index l.a)) (map row_of l.rest) ≡ same_rows (map row_of l.a) (map row_of l.b)
