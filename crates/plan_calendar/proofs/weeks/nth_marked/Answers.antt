use Rattle.plan_calendar.proofs.WeekLemmas.{marked_by_weeks}
use Rattle.plan_calendar.proofs.weeks.nth_marked.Goals as goal

pub returns-clause-found : goal.returns-clause-found
returns-clause-found c = marked_by_weeks c.args.marks.now c.args.weekday c.args.t
    c.marks_of_week-each_week.result c.day_of_week-days.result c.marks_of_week-each_week.ensures.count
    c.day_of_week-days.ensures.found
