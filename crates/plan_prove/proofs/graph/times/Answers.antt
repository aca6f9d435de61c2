use Rattle.plan_prove.proofs.GraphLemmas.{times_more}
use Rattle.plan_prove.proofs.graph.times.Goals as goal

pub loop-x-preserved : goal.loop-x-preserved
loop-x-preserved c = times_more c.args.shop.now c.loop-x.x c.step.result c.loop-x.times.items c.push.new.self.items c.loop-x.invariant c.step.ensures.value c.in_ok-push.ensures.items
