-- The first date of a calendar of texts.
use Rattle.std.proofs.Common.{◌≡◌, List, ℕ, subst, sym}
use Rattle.plan_calendar.specs.CalendarText.{IsStartText}
use Rattle.plan_calendar.specs.WorkingDay.{Workdays}
use Rattle.plan_cli.specs.Calendars.{IsDated}
use Rattle.plan_cli.specs.declared.calendars.Dates.{Dates}

-- it is that of its text
pub start_of : (dates : Dates) (c : Workdays) → IsDated dates c → IsStartText dates.start.now c.start
start_of dates c is =
    subst (λ (w : Workdays). IsStartText dates.start.now w.start) (sym is.holidays.1.same) is.spelled.start_text
