-- The greatest end so far.
use Rattle.std.proofs.Common.{◌≡◌, ◌+◌, ◌≤◌, get_or}
use Rattle.plan_sgs.specs.Placement.{greatest_end}
use Rattle.plan_sgs.specs.Problem.{greatest_below, duration}
use Rattle.plan_sgs.specs.Instances.{problem_of}
use Rattle.plan_report.proofs.makespans.makespan_of.Given as goal

abbrev pub invariant-loop-i : goal.invariant-loop-i
invariant-loop-i l = record {
  greatest : l.latest ≡ greatest_below l.i (λ h. get_or l.starts h 0 + duration (problem_of l.instance) h);
  ends : l.latest ≤ greatest_end;
}
