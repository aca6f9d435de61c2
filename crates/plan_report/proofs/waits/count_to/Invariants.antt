use Rattle.std.proofs.Common.{◌≡◌, ◌≤◌, length, take, filter}
use Rattle.plan_report.specs.Waits.{is_to}
use Rattle.plan_report.proofs.waits.count_to.Given as goal

-- the arcs so far to the activity
abbrev pub invariant-loop-arc : goal.invariant-loop-arc
invariant-loop-arc l = record {
  counted : l.count ≡ length (filter (is_to l.j) (take l.arc-index l.arcs));
  bound : l.count ≤ l.arc-index;
}
