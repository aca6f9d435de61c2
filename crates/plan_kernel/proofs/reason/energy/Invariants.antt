use Rattle.std.proofs.Common.{◌≤◌, take}
use Rattle.plan_kernel.specs.Inputs.{problem_of}
use Rattle.plan_kernel.specs.Reasons.{energy_of}
use Rattle.plan_kernel.proofs.reason.energy.Given as goal

-- no more than what the members so far need
abbrev pub invariant-loop-member : goal.invariant-loop-member
invariant-loop-member l = l.sum ≤ energy_of (problem_of l.input) l.resource (take l.member-index l.members)
