use Rattle.std.proofs.Common.{◌≡◌}
use Rattle.plan_calendar.specs.Weeks.{marks_before}
use Rattle.plan_calendar.proofs.weeks.marks_until.Given as goal

-- the marks of the days so far are counted
abbrev pub invariant-loop-days : goal.invariant-loop-days
invariant-loop-days l = l.count ≡ marks_before l.marks l.weekday l.days
