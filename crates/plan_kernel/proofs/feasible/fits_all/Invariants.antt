use Rattle.std.proofs.Common.{ℕ, ◌<◌}
use Rattle.plan_kernel.specs.Plans.{FitsFor}
use Rattle.plan_kernel.proofs.feasible.fits_all.Given as goal

-- of the resources so far no more is in use than is present
abbrev pub invariant-loop-resource : goal.invariant-loop-resource
invariant-loop-resource l = (k : ℕ) → k < l.resource → FitsFor l.input l.starts l.instant k
