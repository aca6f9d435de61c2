use Rattle.std.proofs.Common.{◌≡◌, map, drop}
use Rattle.std.specs.List.{list_any}
use Rattle.plan_table.specs.Predecessors.{label_of}
use Rattle.plan_spreadsheet.specs.Waits.{is_taken}
use Rattle.plan_spreadsheet.proofs.waiting.any_taken.Given as goal

-- such an activity is among those that are left
abbrev pub invariant-loop-label : goal.invariant-loop-label
invariant-loop-label l =
    list_any is_taken (map label_of (drop l.label-index l.labels)) ≡ list_any is_taken (map label_of l.labels)
