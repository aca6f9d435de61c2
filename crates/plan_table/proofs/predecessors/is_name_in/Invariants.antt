use Rattle.std.proofs.Common.{◌≡◌, map, drop}
use Rattle.std.specs.List.{list_any}
use Rattle.plan_table.specs.Predecessors.{has_name, label_of}
use Rattle.plan_table.proofs.predecessors.is_name_in.Given as goal

-- an activity has the name if one of those that are left has it
abbrev pub invariant-loop-label : goal.invariant-loop-label
invariant-loop-label l = list_any (has_name l.word) (map label_of (drop l.label-index l.labels)) ≡ list_any (has_name l.word) (map label_of l.labels)
