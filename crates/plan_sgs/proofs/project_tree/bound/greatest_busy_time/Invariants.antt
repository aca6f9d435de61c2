-- The greatest of the resources so far.
use Rattle.std.proofs.Common.{◌≡◌}
use Rattle.plan_sgs.specs.Problem.{greatest_below}
use Rattle.plan_sgs.specs.Instances.{problem_of}
use Rattle.plan_sgs.specs.ProjectWords.{busy_of}
use Rattle.plan_sgs.proofs.project_tree.bound.greatest_busy_time.Given as goal

abbrev pub invariant-loop-k : goal.invariant-loop-k
invariant-loop-k l = l.busiest ≡ greatest_below l.k (busy_of (problem_of l.instance))
