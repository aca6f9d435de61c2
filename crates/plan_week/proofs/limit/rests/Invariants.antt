use Rattle.std.proofs.Common.{◌≡◌, min}
use Rattle.plan_sgs.specs.Problem.{total}
use Rattle.plan_solve.specs.declared.plans.TheConstants.{LATEST_COST}
use Rattle.plan_week.specs.Weeks.{rest_of}
use Rattle.plan_week.proofs.limit.rests.Given as goal

-- the sum so far
abbrev pub invariant-loop-place : goal.invariant-loop-place
invariant-loop-place l = l.sum ≡ min (total l.place (rest_of l.week)) LATEST_COST
