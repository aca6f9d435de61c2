use Rattle.std.proofs.Common.{take}
use Rattle.plan_kernel.specs.Clauses.{AreNegated}
use Rattle.plan_kernel.proofs.conflict.learned.Given as goal

-- the negations of the halves so far are in the clause
abbrev pub invariant-loop-half : goal.invariant-loop-half
invariant-loop-half l = AreNegated l.conflict.values.items l.clause.items (take l.half-index l.conflict.touched.items)
