use Rattle.plan_weeksheet.specs.Drawn.{drawn_need}
use Rattle.plan_weeksheet.proofs.StepLemmas.{next_number}
use Rattle.plan_weeksheet.proofs.drawn.drawn_needs.Goals as goal

pub loop-k-preserved : goal.loop-k-preserved
loop-k-preserved c =
    next_number (drawn_need c.args.capacities.now c.args.needs.now) c.loop-k.k _ _ _ c.loop-k.invariant c.drawn_need.ensures c.in_ok-push.ensures.items
