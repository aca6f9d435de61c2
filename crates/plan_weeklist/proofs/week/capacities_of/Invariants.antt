use Rattle.std.proofs.Common.{◌≡◌, length, map, take}
use Rattle.plan_table.specs.Table.{resource_of}
use Rattle.plan_weeklist.proofs.week.capacities_of.Given as goal

-- the capacities so far
abbrev pub invariant-loop-resource : goal.invariant-loop-resource
invariant-loop-resource l =
    (l.capacities.items ≡ map (λ r. r.capacity) (map resource_of (take l.resource-index l.resources)))
    × (length l.capacities.items ≡ l.resource-index)
