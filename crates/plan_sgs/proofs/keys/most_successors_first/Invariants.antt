-- Each number so far and the successors make the same sum.
use Rattle.plan_sgs.proofs.KeyLemmas.{MakeSum}
use Rattle.plan_sgs.proofs.keys.most_successors_first.Given as goal

abbrev pub invariant-loop-i : goal.invariant-loop-i
invariant-loop-i l = MakeSum 4294967295 l.totals l.keys.items l.i
