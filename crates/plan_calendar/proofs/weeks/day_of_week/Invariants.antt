use Rattle.std.proofs.Common.{◌≡◌, ◌+◌}
use Rattle.plan_calendar.specs.Weeks.{marks_before}
use Rattle.plan_calendar.proofs.weeks.day_of_week.Given as goal

-- the marked days so far and those that are left add up
abbrev pub invariant-loop-days : goal.invariant-loop-days
invariant-loop-days l = marks_before l.marks l.weekday l.days + l.left ≡ l.before
