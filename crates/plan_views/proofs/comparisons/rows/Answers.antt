use Rattle.plan_views.specs.Plans.{plan_of}
use Rattle.plan_views.specs.ComparisonTables.{comparison_row}
use Rattle.plan_views.proofs.RowLemmas.{next_from_zero}
use Rattle.plan_views.proofs.comparisons.rows.Goals as goal

pub loop-k-preserved : goal.loop-k-preserved
loop-k-preserved c =
    next_from_zero (comparison_row (plan_of c.args.plan) c.args.a.now c.args.b.now) c.loop-k.k _ _ c.in_ok-row.field-0
    c.loop-k.invariant c.in_ok-row.ensures c.in_ok-push.ensures.items
