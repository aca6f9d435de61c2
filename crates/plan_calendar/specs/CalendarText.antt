-- The two texts of a calendar: its first date, and the marks of the weekdays (docs/definitions.md,
-- "Texts").
use Rattle.std.specs.Prelude.{◌≡◌, ℕ, ◌+◌, ◌/◌, ◌%◌, ◌⊎◌, Bool, if◌then◌else◌, List, [], ◌∷◌, map, pos}
use Rattle.jiff_core.specs.Calendar.{IsBetween}
use Rattle.jiff_core.specs.declared.civil.date.Date.{Date}
use Rattle.jiff.specs.Words.{date_text}
use Rattle.plan_calendar.specs.WorkingDay.{Workdays, IsWeek}
use Rattle.plan_calendar.specs.declared.calendar.CalendarFault.{CalendarFault}
use Rattle.plan_calendar.specs.declared.calendar.CalendarFault.TheVariants as fault

-- the text is the date, as YYYY-MM-DD, and its year is from 1900 to 2199
pub record IsStartText (text : List ℕ) (date : Date) : Type 0 where
  pub spelled : text ≡ date_text date
  pub year : IsBetween (pos 1900) (pos 2199) date.year

-- the text is no such date
abbrev pub HasNoStart : List ℕ → Type 0
HasNoStart text = (date : Date) → IsStartText text date → ⊥

-- the digit of a mark
abbrev pub mark_digit : Bool → ℕ
mark_digit mark = if mark then 49 else 48

-- the text has a digit for each weekday, Monday first, and marks one
pub record IsMarksText (text : List ℕ) (marks : List Bool) : Type 0 where
  pub spelled : text ≡ map mark_digit marks
  pub week : IsWeek marks

-- the text has no such marks
abbrev pub HasNoMarks : List ℕ → Type 0
HasNoMarks text = (marks : List Bool) → IsMarksText text marks → ⊥

-- the texts are those of a calendar, which has no holidays
pub record IsCalendar (start marks : List ℕ) (calendar : Workdays) : Type 0 where
  pub start_text : IsStartText start calendar.start
  pub marks_text : IsMarksText marks calendar.marks
  pub no_holidays : calendar.holidays ≡ []

-- the error of the texts; that of the date comes first
abbrev pub RefusesTexts : List ℕ → List ℕ → CalendarFault → Type 0
RefusesTexts start marks fault.BadDate = HasNoStart start
RefusesTexts start marks fault.BadDays = ((date : Date) × IsStartText start date) × HasNoMarks marks
RefusesTexts start marks fault.BeyondCalendar = ⊥

-- the two digits of a number below 100
abbrev pub AreTwoDigits : ℕ → ℕ → ℕ → Type 0
AreTwoDigits tens ones n = (tens ≡ 48 + n / 10) × (ones ≡ 48 + n % 10)

-- the year in four digits, the month in two and the day in two, with a hyphen between them
abbrev pub date_bytes : ℕ → ℕ → ℕ → List ℕ
date_bytes year month day =
    (48 + year / 100 / 10) ∷ (48 + year / 100 % 10) ∷ (48 + year % 100 / 10) ∷ (48 + year % 100 % 10) ∷ 45
    ∷ (48 + month / 10) ∷ (48 + month % 10) ∷ 45 ∷ (48 + day / 10) ∷ (48 + day % 10) ∷ []

-- a digit of a mark
abbrev pub IsMarkDigit : ℕ → Type 0
IsMarkDigit byte = (byte ≡ 48) ⊎ (byte ≡ 49)
