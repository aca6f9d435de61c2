use Rattle.std.proofs.Common.{◌≡◌}
use Rattle.plan_sgs.specs.Problem.{greatest_below}
use Rattle.plan_week.specs.Tardiness.{wish_of, date_or}
use Rattle.plan_week.proofs.dues.latest_due.Given as goal

-- the latest date so far
abbrev pub invariant-loop-place : goal.invariant-loop-place
invariant-loop-place l = l.latest ≡ greatest_below l.place (λ i. date_or 0 (wish_of l.week i))
