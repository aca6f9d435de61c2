use Rattle.std.proofs.lemmas.Result.{IfOk-weaker}
use Rattle.plan_errors.specs.Output.{Refuses}
use Rattle.plan_cli.specs.Calendars.{AddsHolidays, IsDated, TellsBadHolidays, TellsNoCalendar}
use Rattle.plan_cli.proofs.CalendarLemmas.{dated, bad_holidays}
use Rattle.plan_documents.proofs.ErrorLemmas.{if_err_weaker}
use Rattle.plan_cli.proofs.calendars.calendar_of.Goals as goal

pub returns-clause-made : goal.returns-clause-made
returns-clause-made c =
    let dates = c.args.dates in
    let plain = c.in_ok-calendar.calendar in
    IfOk-weaker c.with_holidays.result (AddsHolidays plain dates.holidays.now) (IsDated dates)
    (λ made adds. dated dates plain made c.in_ok-calendar.ensures.made adds) c.with_holidays.ensures.made

pub returns-clause-refused : goal.returns-clause-refused
returns-clause-refused c =
    let dates = c.args.dates in
    let plain = c.in_ok-calendar.calendar in
    if_err_weaker c.with_holidays.result (Refuses (TellsBadHolidays dates.holidays.now)) (Refuses (TellsNoCalendar dates))
    (λ e refused. bad_holidays dates plain e c.in_ok-calendar.ensures.made refused) c.with_holidays.ensures.refused
