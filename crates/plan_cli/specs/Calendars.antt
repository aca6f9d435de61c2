-- The calendar of a command, and the lines that refuse its texts (docs/definitions.md, "Runs").
use Rattle.std.specs.Prelude.{◌≡◌, ◌⊎◌, ℕ, ◌≤◌, ◌<◌, List, ◌++◌, codes, length}
use Rattle.std.specs.Fmt.{decimal}
use Rattle.plan_calendar.specs.WorkingDay.{Workdays}
use Rattle.plan_calendar.specs.CalendarText.{IsCalendar, RefusesTexts}
use Rattle.plan_calendar.specs.declared.calendar.CalendarFault.{CalendarFault}
use Rattle.plan_holidays.specs.HolidayText.{HasHolidays, RefusesText}
use Rattle.plan_holidays.specs.WeekdayText.{digits_of}
use Rattle.plan_holidays.specs.declared.fault.HolidayFault.{HolidayFault}
use Rattle.plan_holidays.specs.declared.fault.HolidayFault.TheVariants as holiday
use Rattle.plan_psplib.specs.Plain.{longest_text}
use Rattle.plan_gantt.specs.CalendarFaultText.{calendar_fault_text_of}
use Rattle.plan_cli.specs.declared.calendars.Dates.{Dates}

-- a calendar has the first date and the marks of the texts, and no holidays
abbrev pub IsPlain : Dates → Workdays → Type 0
IsPlain dates c = IsCalendar dates.start.now (digits_of dates.marks.now) c

-- a calendar is another one with the holidays in a text, which has at most 1,048,576 bytes
abbrev pub AddsHolidays : Workdays → List ℕ → Workdays → Type 0
AddsHolidays plain text c = (length text ≤ longest_text) × HasHolidays plain text c

-- a calendar is that of the texts: their first date, their marks and their holidays
pub record IsDated (dates : Dates) (c : Workdays) : Type 0 where
  pub plain : Workdays
  pub spelled : IsPlain dates plain
  pub holidays : AddsHolidays plain dates.holidays.now c

-- a line gives the error of a calendar
abbrev pub TellsCalendarFault : CalendarFault → List ℕ → Type 0
TellsCalendarFault first line = line ≡ calendar_fault_text_of first

-- a line gives the error of the first date, or else of the marks
abbrev pub TellsBadDates : Dates → List ℕ → Type 0
TellsBadDates dates line =
    (first : CalendarFault) × RefusesTexts dates.start.now (digits_of dates.marks.now) first
    × TellsCalendarFault first line

-- a line gives the error of holidays, which isn't that of memory
abbrev pub TellsHolidayFault : HolidayFault → List ℕ → Type 0
TellsHolidayFault (holiday.BadLine n) line = line ≡ codes "G5 line " ++ decimal n ++ codes " date"
TellsHolidayFault holiday.TooMany line = line ≡ codes "G6 holidays"
TellsHolidayFault holiday.Memory line = ⊥

-- a line gives the error of a text of holidays: it is too long, or else that of its lines
abbrev pub TellsBadHolidays : List ℕ → List ℕ → Type 0
TellsBadHolidays text line =
    ((longest_text < length text) × TellsHolidayFault holiday.TooMany line)
    ⊎ ((first : HolidayFault) × RefusesText text first × TellsHolidayFault first line)

-- a line gives the reason why the texts are those of no calendar: the first date, the marks, or
-- else the holidays
abbrev pub TellsNoCalendar : Dates → List ℕ → Type 0
TellsNoCalendar dates line =
    TellsBadDates dates line
    ⊎ (((plain : Workdays) × IsPlain dates plain) × TellsBadHolidays dates.holidays.now line)
