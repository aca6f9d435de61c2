use Rattle.std.proofs.Common.{◌≡◌}
use Rattle.plan_sgs.specs.Problem.{greatest_below}
use Rattle.plan_week.specs.Weeks.{end_of}
use Rattle.plan_week.proofs.state.makespan_of.Given as goal

-- the greatest end so far
abbrev pub invariant-loop-place : goal.invariant-loop-place
invariant-loop-place l = l.greatest ≡ greatest_below l.place (end_of l.week l.starts)
