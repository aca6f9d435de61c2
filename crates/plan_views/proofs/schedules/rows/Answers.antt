use Rattle.plan_views.specs.Plans.{plan_of}
use Rattle.plan_views.specs.ScheduleTables.{schedule_row}
use Rattle.plan_views.proofs.RowLemmas.{next_from_zero}
use Rattle.plan_views.proofs.schedules.rows.Goals as goal

pub loop-k-preserved : goal.loop-k-preserved
loop-k-preserved c =
    next_from_zero (schedule_row (plan_of c.args.plan) c.args.starts.now) c.loop-k.k _ _ c.in_ok-row.field-0
    c.loop-k.invariant c.in_ok-row.ensures c.in_ok-push.ensures.items
