-- The rows before the index are raised.
use Rattle.plan_profile.specs.Changes.{AreRaised}
use Rattle.plan_profile.proofs.rows.raise.Given as goal

abbrev pub invariant-loop-i : goal.invariant-loop-i
invariant-loop-i l = AreRaised l.fn.rows l.from l.i l.needs l.rows
