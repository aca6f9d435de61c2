use Rattle.std.proofs.Common.{◌≡◌, [], map, drop}
use Rattle.plan_table.specs.Csv.{row_of}
use Rattle.plan_table.specs.Predecessors.{label_of}
use Rattle.plan_spreadsheet.specs.Waits.{labels_from}
use Rattle.plan_spreadsheet.proofs.waiting.labels_of.Given as goal

-- the labels of the rows that are left, behind those so far, are all labels
abbrev pub invariant-loop-row : goal.invariant-loop-row
invariant-loop-row l =
    labels_from l.ids l.names (map label_of l.labels.items) (map row_of (drop l.row-index l.rows))
    ≡ labels_from l.ids l.names [] (map row_of l.rows)
