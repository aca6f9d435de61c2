use Rattle.plan_calendar.proofs.WeekLemmas.{counted_by_weeks}
use Rattle.plan_calendar.proofs.weeks.count_marked.Goals as goal

pub returns : goal.returns
returns c = counted_by_weeks c.args.marks.now c.args.weekday c.args.days c.marks_of_week.result c.marks_until.result
    c.marks_of_week.ensures.count c.marks_until.ensures.count
