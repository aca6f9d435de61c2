use Rattle.std.proofs.Common.{◌≡◌, map, drop}
use Rattle.plan_table.specs.Csv.{row_of}
use Rattle.plan_list_back.specs.Texts.{rows_from}
use Rattle.plan_list_back.proofs.text.push_lines.Given as goal

-- the rows that are left, behind the text so far, give all rows
abbrev pub invariant-loop-row : goal.invariant-loop-row
invariant-loop-row l =
    rows_from l.separator l.text.items (row_of l.before) (map row_of (drop l.row-index l.rows))
    ≡ rows_from l.separator l.fn.text.items (row_of l.first) (map row_of l.rows)
