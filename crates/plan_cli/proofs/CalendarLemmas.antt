-- The calendar of texts, and their refusals.
use Rattle.std.proofs.Common.{◌≡◌, ℕ, List, inl, inr, subst}
use Rattle.plan_calendar.specs.CalendarText.{RefusesTexts}
use Rattle.plan_calendar.specs.WorkingDay.{Workdays}
use Rattle.plan_calendar.specs.declared.calendar.CalendarFault.{CalendarFault}
use Rattle.plan_holidays.specs.HolidayText.{RefusesText}
use Rattle.plan_holidays.specs.WeekdayText.{digits_of}
use Rattle.plan_holidays.specs.declared.fault.HolidayFault.{HolidayFault}
use Rattle.plan_errors.specs.declared.fault.CliFault.{CliFault}
use Rattle.plan_errors.specs.Output.{Refuses}
use Rattle.plan_cli.specs.declared.calendars.Dates.{Dates}
use Rattle.plan_cli.specs.Calendars.{IsPlain, AddsHolidays, IsDated, TellsBadDates, TellsBadHolidays, TellsCalendarFault, TellsHolidayFault, TellsNoCalendar}
use Rattle.plan_documents.proofs.ErrorLemmas.{refuses_as}

pub dated : (dates : Dates) (plain c : Workdays) → IsPlain dates plain → AddsHolidays plain dates.holidays.now c → IsDated dates c
dated dates plain c is adds = record { plain = plain; spelled = is; holidays = adds }

pub bad_holidays : (dates : Dates) (plain : Workdays) (e : CliFault) → IsPlain dates plain → Refuses (TellsBadHolidays dates.holidays.now) e
    → Refuses (TellsNoCalendar dates) e
bad_holidays dates plain e is refused =
    refuses_as (TellsBadHolidays dates.holidays.now) (TellsNoCalendar dates) e (λ line tells. inr ((plain, is), tells)) refused

-- the error of a first date or of marks
pub told_bad_dates : (dates : Dates) (marks : List ℕ) (first : CalendarFault) (e : CliFault)
    → marks ≡ digits_of dates.marks.now → RefusesTexts dates.start.now marks first → Refuses (TellsCalendarFault first) e
    → Refuses (TellsBadDates dates) e
told_bad_dates dates marks first e same refused told =
    refuses_as (TellsCalendarFault first) (TellsBadDates dates) e
    (λ line tells. (first, subst (λ (text : List ℕ). RefusesTexts dates.start.now text first) same refused, tells)) told

-- the error of holidays
pub told_bad_holidays : (text : List ℕ) (first : HolidayFault) (e : CliFault)
    → RefusesText text first → Refuses (TellsHolidayFault first) e → Refuses (TellsBadHolidays text) e
told_bad_holidays text first e refused told =
    refuses_as (TellsHolidayFault first) (TellsBadHolidays text) e (λ line tells. inr (first, refused, tells)) told
