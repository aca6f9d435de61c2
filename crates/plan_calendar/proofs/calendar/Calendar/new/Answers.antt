use Rattle.plan_calendar.proofs.HolidayLemmas.{none_off}
use Rattle.plan_calendar.proofs.calendar.Calendar.new.Goals as goal

pub invariant_of-result : goal.invariant_of-result
invariant_of-result c = (c.in-Some-week_marks.ensures.some.week, none_off _ _)
