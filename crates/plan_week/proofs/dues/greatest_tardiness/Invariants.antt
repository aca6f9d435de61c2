use Rattle.std.proofs.Common.{◌≡◌}
use Rattle.plan_sgs.specs.Problem.{greatest_below}
use Rattle.plan_week.specs.Tardiness.{tardiness_of}
use Rattle.plan_week.proofs.dues.greatest_tardiness.Given as goal

-- the greatest tardiness so far
abbrev pub invariant-loop-place : goal.invariant-loop-place
invariant-loop-place l = l.greatest ≡ greatest_below l.place (tardiness_of l.week l.starts)
