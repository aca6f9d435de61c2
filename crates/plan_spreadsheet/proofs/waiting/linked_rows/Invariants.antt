use Rattle.std.proofs.Common.{◌≡◌, map, drop}
use Rattle.plan_table.specs.Csv.{row_of}
use Rattle.plan_table.specs.Predecessors.{label_of}
use Rattle.plan_spreadsheet.specs.Waits.{linked_from, linked_of, no_rows}
use Rattle.plan_spreadsheet.proofs.waiting.linked_rows.Given as goal

-- the rows that are left, behind those so far, give all rows
abbrev pub invariant-loop-row : goal.invariant-loop-row
invariant-loop-row l =
    linked_from l.ids l.after (map label_of l.labels) (linked_of l.linked) (map row_of (drop l.row-index l.rows))
    ≡ linked_from l.ids l.after (map label_of l.labels) no_rows (map row_of l.rows)
