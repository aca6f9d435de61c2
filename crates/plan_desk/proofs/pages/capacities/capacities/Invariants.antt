use Rattle.std.proofs.Common.{◌≡◌, ◌+◌, ◌++◌, drop}
use Rattle.plan_desk.specs.PlanValues as values
use Rattle.plan_desk.proofs.pages.capacities.capacities.Given as goal

-- the capacities made so far, and those of the resources that are left, are those of all
abbrev pub invariant-loop-k : goal.invariant-loop-k
invariant-loop-k l =
    l.caps.items ++ values.capacities_in l.places (l.k + 1) (drop l.k l.available) ≡ values.capacities_in l.places 1 l.available
