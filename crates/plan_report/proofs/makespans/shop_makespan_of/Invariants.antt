-- The greatest end so far.
use Rattle.std.proofs.Common.{◌≡◌, ◌+◌, ◌≤◌, get_or}
use Rattle.plan_sgs.specs.Problem.{greatest_below, duration}
use Rattle.plan_shop.specs.Shop.{problem_of}
use Rattle.plan_gantt.specs.Limits.{latest_end}
use Rattle.plan_report.proofs.makespans.shop_makespan_of.Given as goal

abbrev pub invariant-loop-x : goal.invariant-loop-x
invariant-loop-x l = record {
  greatest : l.latest ≡ greatest_below l.x (λ h. get_or l.starts h 0 + duration (problem_of l.shop) h);
  ends : l.latest ≤ latest_end;
}
