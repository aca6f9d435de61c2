use Rattle.std.proofs.Common.{◌≡◌, map, take}
use Rattle.plan_table.specs.Table.{resource_of}
use Rattle.plan_weeksheet.specs.Drawn.{supply_of}
use Rattle.plan_weeksheet.proofs.drawn.supplies_of.Given as goal

-- the resources so far
abbrev pub invariant-loop-capacity : goal.invariant-loop-capacity
invariant-loop-capacity l = map resource_of l.supplies.items ≡ map supply_of (take l.capacity-index l.capacities)
