-- The numbers so far.
use Rattle.plan_sgs.proofs.KeyLemmas.{AreValues}
use Rattle.plan_sgs.proofs.keys.numbers.Given as goal

abbrev pub invariant-loop-i : goal.invariant-loop-i
invariant-loop-i l = AreValues (λ h. h) l.keys.items l.i
