use Rattle.plan_prove.proofs.StateLemmas.{leaf_before}
use Rattle.plan_prove.proofs.refutation.visit.Goals as goal

pub returns : goal.returns
returns c =
    leaf_before c.args.graph.now c.args.limit c.expand.new.waiting.items c.args.waiting.now.items c.args.state c.deduce.new.state c.in_ok-leaf.leaf c.in-Some.ensures c.in_ok-leaf.ensures
