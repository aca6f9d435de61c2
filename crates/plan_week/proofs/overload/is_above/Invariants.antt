use Rattle.std.proofs.Common.{◌≡◌, ◌≤◌, ◌+◌}
use Rattle.plan_sgs.specs.Problem.{total}
use Rattle.plan_week.specs.Weeks.{missing}
use Rattle.plan_week.specs.Overloads.{held_by}
use Rattle.plan_week.proofs.overload.is_above.Given as goal

-- the absences and the need of the activities so far, which are within the capacity
abbrev pub invariant-loop-place : goal.invariant-loop-place
invariant-loop-place l = record {
  sum : l.used ≡ missing l.week l.instant l.resource + total l.place (held_by l.week l.instant l.resource);
  most : l.used ≤ l.capacity;
}
