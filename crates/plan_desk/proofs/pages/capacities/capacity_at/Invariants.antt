use Rattle.std.proofs.Common.{◌≡◌, drop}
use Rattle.plan_desk.specs.PlanValues as values
use Rattle.plan_desk.proofs.pages.capacities.capacity_at.Given as goal

-- the capacity that is found in the places that are left is that in all places
abbrev pub invariant-loop-bound : goal.invariant-loop-bound
invariant-loop-bound l = values.capacity_at (drop l.bound-index l.places) l.place ≡ values.capacity_at l.places l.place
