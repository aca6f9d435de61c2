-- The tree stands at the empty word.
use Rattle.plan_active.proofs.BoundLemmas.{shop_bound_at_none}
use Rattle.plan_active.proofs.bounds.shop_bound.Goals as goal

pub returns : goal.returns
returns c = shop_bound_at_none c.args.shop.now c.in_ok-tree.tree c.bound.result c.jobs-jobs.ensures.shop.shop c.in_ok-tree.ensures c.bound.ensures
