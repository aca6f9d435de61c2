use Rattle.std.proofs.Common.{◌+◌, arith}
use Rattle.plan_sheet.specs.PlanEvents.{needs_of}
use Rattle.plan_sheet.proofs.PartLemmas.{next_value}
use Rattle.plan_sheet.proofs.events.all_needs.Goals as goal

pub loop-k-preserved : goal.loop-k-preserved
loop-k-preserved c =
    next_value (λ row. row.now) (needs_of c.args.instance.now) 1 c.loop-k.k (c.loop-k.k + 1) _ _ _ (omega arith)
    c.loop-k.invariant c.in_ok-push.ensures.items c.needs_of-row.ensures
