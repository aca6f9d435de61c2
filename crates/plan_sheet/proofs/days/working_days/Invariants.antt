use Rattle.std.specs.List.{AllZip, range_with_len}
use Rattle.plan_calendar.specs.WorkingDay.{IsWorkingDay}
use Rattle.plan_sheet.proofs.days.working_days.Given as goal

-- the days so far
abbrev pub invariant-loop-t : goal.invariant-loop-t
invariant-loop-t l = AllZip (IsWorkingDay l.calendar) (range_with_len 0 l.t) l.days.items
