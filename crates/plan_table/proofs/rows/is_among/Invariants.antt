use Rattle.std.proofs.Common.{◌≡◌, map, drop}
use Rattle.std.specs.List.{list_any}
use Rattle.plan_table.specs.Predecessors.{has_id, label_of}
use Rattle.plan_table.proofs.rows.is_among.Given as goal

-- an id is among the others if it is among those that are left
abbrev pub invariant-loop-other : goal.invariant-loop-other
invariant-loop-other l = list_any (has_id l.id) (map label_of (drop l.other-index l.ids)) ≡ list_any (has_id l.id) (map label_of l.ids)
