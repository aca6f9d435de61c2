-- The work of the activities so far.
use Rattle.std.proofs.Common.{◌≡◌, ◌*◌, ◌≤◌}
use Rattle.plan_sgs.specs.Problem.{total, duration, need}
use Rattle.plan_sgs.specs.Instances.{problem_of}
use Rattle.plan_sgs.proofs.project_tree.bound.work_on.Given as goal

abbrev pub invariant-loop-i : goal.invariant-loop-i
invariant-loop-i l = record {
  value : l.work ≡ total l.i (λ h. duration (problem_of l.instance) h * need (problem_of l.instance) h l.k);
  limit : l.work ≤ 100000000 * l.i;
}
