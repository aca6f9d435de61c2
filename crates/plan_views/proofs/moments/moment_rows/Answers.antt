use Rattle.std.proofs.Common.{map}
use Rattle.plan_views.specs.Moments.{moment_row, pair_of}
use Rattle.plan_views.specs.Plans.{plan_of}
use Rattle.plan_views.proofs.RowLemmas.{next_from_zero}
use Rattle.plan_views.proofs.moments.moment_rows.Goals as goal

pub loop-k-preserved : goal.loop-k-preserved
loop-k-preserved c =
    next_from_zero (moment_row (plan_of c.args.plan) (map pair_of c.args.moments.now)) c.loop-k.k _ _ c.in_ok-row.row
    c.loop-k.invariant c.in_ok-row.ensures c.in_ok-push_row.ensures
