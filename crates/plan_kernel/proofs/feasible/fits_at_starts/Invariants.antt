use Rattle.std.proofs.Common.{take}
use Rattle.std.specs.List.{All}
use Rattle.plan_kernel.specs.Plans.{FitsAt}
use Rattle.plan_kernel.proofs.feasible.fits_at_starts.Given as goal

-- at the starts so far no more is in use than is present
abbrev pub invariant-loop-start : goal.invariant-loop-start
invariant-loop-start l = All (FitsAt l.input l.starts) (take l.start-index l.starts)
