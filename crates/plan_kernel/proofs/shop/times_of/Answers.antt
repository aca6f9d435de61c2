use Rattle.plan_orlib.specs.declared.steps.Step.{Step}
use Rattle.plan_kernel.proofs.ShopLemmas.{steps_more}
use Rattle.plan_kernel.proofs.shop.times_of.Goals as goal

pub loop-x-preserved : goal.loop-x-preserved
loop-x-preserved c =
    steps_more (λ (w : Step). w.time) c.args.shop.now.steps c.loop-x.x c.step.result c.loop-x.times.items c.push.new.self.items c.loop-x.invariant
    c.step.ensures.value c.in_ok-push.ensures.items
