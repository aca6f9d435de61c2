use Rattle.std.proofs.Common.{◌≡◌}
use Rattle.plan_sgs.specs.Problem.{greatest_below}
use Rattle.plan_kernel.specs.Plans.{reach_of}
use Rattle.plan_kernel.proofs.feasible.greatest_cost.Given as goal

-- the greatest end so far, with its tail
abbrev pub invariant-loop-place : goal.invariant-loop-place
invariant-loop-place l = l.greatest ≡ greatest_below l.place (reach_of l.input l.starts)
