use Rattle.std.proofs.Common.{◌≡◌}
use Rattle.plan_sgs.specs.Problem.{greatest_below}
use Rattle.plan_week.specs.Weeks.{state_of}
use Rattle.plan_week.specs.WeekAnswers.{awaited_by}
use Rattle.plan_week.proofs.limit.latest_awaited.Given as goal

-- the latest instant so far
abbrev pub invariant-loop-place : goal.invariant-loop-place
invariant-loop-place l = l.latest ≡ greatest_below l.place (λ i. awaited_by (state_of l.week i))
