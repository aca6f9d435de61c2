use Rattle.std.proofs.Common.{take}
use Rattle.std.specs.List.{All}
use Rattle.plan_kernel.specs.Plans.{FitsAt}
use Rattle.plan_kernel.proofs.feasible.fits_at_absences.Given as goal

-- where the absences so far begin no more is in use than is present
abbrev pub invariant-loop-absence : goal.invariant-loop-absence
invariant-loop-absence l = All (λ a. FitsAt l.input l.starts a.from) (take l.absence-index l.input.absences.items)
