-- The tree stands at the empty word.
use Rattle.plan_solve.proofs.BoundLemmas.{bound_at_none}
use Rattle.plan_solve.proofs.bounds.simple_bound.Goals as goal

pub returns : goal.returns
returns c = bound_at_none c.args.instance.now c.in_ok-tree.tree c.bound.result c.network-network.ensures.instance c.in_ok-tree.ensures c.bound.ensures
