use Rattle.plan_cpm.proofs.NextLemmas.{AreNextStartsOf}
use Rattle.plan_cpm.proofs.floats.next_starts.Given as goal

-- the entry of each activity is correct for the successors so far
abbrev pub invariant-loop-i : goal.invariant-loop-i
invariant-loop-i l = AreNextStartsOf l.network l.finishes l.duration l.i l.nexts.items
