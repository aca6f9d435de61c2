-- The greatest of the tails so far.
use Rattle.std.proofs.Common.{◌≡◌, suc}
use Rattle.plan_sgs.specs.Problem.{greatest_below}
use Rattle.plan_sgs.specs.PathTails.{tail_of}
use Rattle.plan_sgs.proofs.project_tree.bound.longest_path.Given as goal

abbrev pub invariant-loop-i : goal.invariant-loop-i
invariant-loop-i l = l.longest ≡ greatest_below l.i (λ h. tail_of l.instance.project.network (suc h))
