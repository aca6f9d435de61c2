use Rattle.std.proofs.Common.{◌≡◌}
use Rattle.plan_desk.specs.PlanValues as values
use Rattle.plan_desk.proofs.pages.capacities.open_machines.Given as goal

-- the machines so far
abbrev pub invariant-loop-machine : goal.invariant-loop-machine
invariant-loop-machine l = l.usable.items ≡ values.machines_in l.places l.machine
