use Rattle.std.proofs.Common.{arith, rules}
use Rattle.plan_views.specs.Moments.{AreMomentsOf}
use Rattle.plan_views.specs.Plans.{interval_of, plan_of}
use Rattle.plan_views.proofs.MomentLemmas.{next_zip}
use Rattle.plan_views.proofs.moments.plan_moments.Goals as goal

pub loop-k-preserved : goal.loop-k-preserved
loop-k-preserved c =
    next_zip (λ k m. AreMomentsOf c.args.calendar.now c.args.style.now (interval_of (plan_of c.args.plan) c.args.starts.now k) m)
    c.loop-k.k _ _ c.in_ok-row.row c.loop-k.invariant c.in_ok-push_moments.ensures c.in_ok-row.ensures.moments

pub returns-in_err-row-clause-beyond : goal.returns-in_err-row-clause-beyond
returns-in_err-row-clause-beyond c is = (c.loop-k.k, omega arith, c.row_moments.ensures.beyond (search rules))
