use Rattle.std.proofs.Common.{◌<◌, arith}
use Rattle.plan_calendar.specs.Weeks.{marks_before}
use Rattle.plan_calendar.proofs.WeekLemmas.{some_each_week}
use Rattle.plan_calendar.proofs.weeks.marks_of_week.Goals as goal

pub returns-clause-some : goal.returns-clause-some
returns-clause-some c =
    let marks = c.args.marks.now in
    let w = c.args.weekday in
    let some : 0 < marks_before marks w 7 = some_each_week marks w c.requires.week.seven c.requires.week.some c.requires.weekday in
    omega (arith, some, c.marks_until.ensures.count)
