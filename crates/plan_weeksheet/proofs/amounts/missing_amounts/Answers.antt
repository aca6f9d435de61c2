use Rattle.plan_weeksheet.specs.WeekRectangles.{missing_amount}
use Rattle.plan_weeksheet.proofs.StepLemmas.{next_number}
use Rattle.plan_weeksheet.proofs.amounts.missing_amounts.Goals as goal

pub loop-k-preserved : goal.loop-k-preserved
loop-k-preserved c =
    next_number (missing_amount c.args.absence.now) c.loop-k.k _ _ _ c.loop-k.invariant c.missing_amount.ensures c.in_ok-push.ensures.items
