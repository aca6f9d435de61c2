use Rattle.std.proofs.Common.{◌≤◌, take}
use Rattle.std.specs.List.{sum_by}
use Rattle.plan_kernel.specs.Reasons.{taken_in}
use Rattle.plan_kernel.proofs.reason.absent.Given as goal

-- no more than what the absences so far take
abbrev pub invariant-loop-absence : goal.invariant-loop-absence
invariant-loop-absence l = l.sum ≤ sum_by (taken_in l.resource l.from l.until) (take l.absence-index l.input.absences.items)
