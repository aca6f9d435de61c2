-- The entries so far came in their turns, and are marked.
use Rattle.plan_sgs.proofs.TakingLemmas.{AreTaken}
use Rattle.plan_sgs.proofs.lists.is_list.Given as goal

abbrev pub invariant-loop-j : goal.invariant-loop-j
invariant-loop-j l = AreTaken l.instance l.list l.j-index l.taken.items
