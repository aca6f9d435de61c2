use Rattle.std.proofs.Common.{◌≡◌, take, map}
use Rattle.plan_table.specs.Table.{resource_of}
use Rattle.plan_table.proofs.jobs.capacities.Given as goal

-- the capacities are those of the resources so far
abbrev pub invariant-loop-resource : goal.invariant-loop-resource
invariant-loop-resource l = l.capacities.items ≡ map (λ r. r.capacity) (map resource_of (take l.resource-index l.resources))
