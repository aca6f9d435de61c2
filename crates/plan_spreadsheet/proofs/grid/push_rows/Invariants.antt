use Rattle.std.proofs.Common.{◌≡◌, map, drop}
use Rattle.plan_table.specs.Csv.{row_of}
use Rattle.plan_spreadsheet.specs.Spelling.{rows_from}
use Rattle.plan_spreadsheet.proofs.grid.push_rows.Given as goal

-- the rows that are left, behind the text so far, give all rows
abbrev pub invariant-loop-row : goal.invariant-loop-row
invariant-loop-row l =
    rows_from l.text.items (row_of l.before) (map row_of (drop l.row-index l.rows))
    ≡ rows_from l.fn.text.items (row_of l.first) (map row_of l.rows)
