use Rattle.plan_views.specs.Bars.{row_of}
use Rattle.plan_views.specs.Charts.{activity_row}
use Rattle.plan_views.proofs.RowLemmas.{next_item_from_zero}
use Rattle.plan_views.proofs.charts.activity_rows.Goals as goal

pub loop-k-preserved : goal.loop-k-preserved
loop-k-preserved c =
    next_item_from_zero row_of (activity_row c.args.instance.now c.args.starts.now) c.loop-k.k _ _ c.in_ok-activity_row.field-0
    c.loop-k.invariant c.in_ok-activity_row.ensures c.in_ok-push.ensures.items
