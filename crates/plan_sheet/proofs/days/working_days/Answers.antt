use Rattle.std.proofs.Common.{arith, rules}
use Rattle.plan_calendar.specs.WorkingDay.{IsWorkingDay}
use Rattle.plan_sheet.proofs.ZipLemmas.{next_zip}
use Rattle.plan_sheet.proofs.days.working_days.Goals as goal

pub loop-t-preserved : goal.loop-t-preserved
loop-t-preserved c =
    next_zip (IsWorkingDay c.args.calendar.now) c.loop-t.t _ _ c.in_ok-day.day c.loop-t.invariant c.in_ok-push_day.ensures
    c.in_ok-day.ensures.day

pub returns-in_err-day-clause-beyond : goal.returns-in_err-day-clause-beyond
returns-in_err-day-clause-beyond c is = (c.loop-t.t, omega arith, c.day_at.ensures.beyond (search rules))
