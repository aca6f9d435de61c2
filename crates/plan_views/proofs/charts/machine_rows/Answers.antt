use Rattle.plan_views.specs.Bars.{row_of}
use Rattle.plan_views.specs.Charts.{machine_row}
use Rattle.plan_views.proofs.RowLemmas.{next_item_from_zero}
use Rattle.plan_views.proofs.charts.machine_rows.Goals as goal

pub loop-machine-preserved : goal.loop-machine-preserved
loop-machine-preserved c =
    next_item_from_zero row_of (machine_row c.args.shop.now c.args.starts.now) c.loop-machine.machine _ _ c.in_ok-machine_row.field-0
    c.loop-machine.invariant c.in_ok-machine_row.ensures c.in_ok-push.ensures.items
