use Rattle.std.specs.List.{AllZip, range_with_len}
use Rattle.plan_views.specs.Moments.{AreMomentsOf}
use Rattle.plan_views.specs.Plans.{interval_of, plan_of}
use Rattle.plan_views.proofs.moments.plan_moments.Given as goal

-- the texts of the rows so far
abbrev pub invariant-loop-k : goal.invariant-loop-k
invariant-loop-k l =
    AllZip (λ k m. AreMomentsOf l.calendar l.style (interval_of (plan_of l.plan) l.starts k) m) (range_with_len 0 l.k) l.rows.items
