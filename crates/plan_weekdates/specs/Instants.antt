-- The instants of dates: numbers of working days (docs/definitions.md, "Texts"). Days are numbered
-- from 1970-01-01 on.
use Rattle.std.specs.Prelude.{ℕ, ℤ, pos, negsuc, ◌+ℤ◌, ◌-ℤ◌, ◌<ℤ◌}
use Rattle.jiff_core.specs.Date.{epoch_day}
use Rattle.jiff_core.specs.declared.civil.date.Date.{Date}
use Rattle.plan_calendar.specs.WorkingDay.{Workdays, working_days}

-- a number, or 0 if it is negative
abbrev pub not_negative : ℤ → ℕ
not_negative (pos n) = n
not_negative (negsuc n) = 0

-- the number of days from one day on that are before another one
abbrev pub days_before : ℤ → ℤ → ℕ
days_before first day = not_negative (day -ℤ first)

-- the number of working days from the first date of a calendar on that are before a day
unfoldable pub working_before : Workdays → ℤ → ℕ
working_before calendar day =
    working_days calendar (epoch_day calendar.start) (days_before (epoch_day calendar.start) day)

-- the instant at which a date begins: the number of working days before it
abbrev pub instant_before : Workdays → Date → ℕ
instant_before calendar date = working_before calendar (epoch_day date)

-- the instant at which a date ends: the number of working days up to it
abbrev pub instant_behind : Workdays → Date → ℕ
instant_behind calendar date = working_before calendar (epoch_day date +ℤ pos 1)

-- a date is before the first date of a calendar
abbrev pub IsTooEarly : Workdays → Date → Type 0
IsTooEarly calendar date = epoch_day date <ℤ epoch_day calendar.start
