use Rattle.std.proofs.Common.{take}
use Rattle.plan_kernel.specs.Reasons.{AreMembers}
use Rattle.plan_kernel.proofs.reason.are_members.Given as goal

-- the members so far
abbrev pub invariant-loop-place : goal.invariant-loop-place
invariant-loop-place l = AreMembers l.input l.from l.until (take l.place l.members)
