-- Working days (docs/definitions.md, "Texts"). A week has seven marks, Monday first; days are
-- numbered from 1970-01-01 on.
use Rattle.std.specs.Prelude.{◌≡◌, ℕ, zero, suc, ◌+◌, Bool, true, List, length, slice_index_or, false, if◌then◌else◌, ℤ, pos, ◌+ℤ◌, ◌&&◌, not}
use Rattle.std.specs.List.{list_any}
use Rattle.std.specs.Ordering.{int_eq}
use Rattle.jiff_core.specs.Calendar.{weekday_number}
use Rattle.jiff_core.specs.Date.{epoch_day}
use Rattle.jiff_core.specs.declared.civil.date.Date.{Date}

-- a calendar: its first date, the marks of the weekdays, and the holidays in any order
pub record Workdays : Type 0 where
  pub start : Date
  pub marks : List Bool
  pub holidays : List Date

-- the weekday of the day is marked
unfoldable pub is_marked : List Bool → ℤ → Bool
is_marked marks day = slice_index_or marks (weekday_number day) false

-- the day is one of the dates
unfoldable pub is_holiday : List Date → ℤ → Bool
is_holiday holidays day = list_any (λ date. int_eq (epoch_day date) day) holidays

-- the weekday of the day is marked, and the day isn't a holiday
unfoldable pub is_working : Workdays → ℤ → Bool
is_working calendar day = is_marked calendar.marks day && not (is_holiday calendar.holidays day)

-- one for a day that counts
abbrev pub one_if : Bool → ℕ
one_if counts = if counts then 1 else 0

-- the number of working days among the first n days from a day on
unfoldable pub working_days : Workdays → ℤ → ℕ → ℕ
working_days calendar day zero = 0
working_days calendar day (suc n) =
    working_days calendar day n + one_if (is_working calendar (day +ℤ pos n))

-- the date is a working day, and exactly t working days from the start on are before it
pub record IsWorkingDay (calendar : Workdays) (t : ℕ) (date : Date) : Type 0 where
  pub days : ℕ
  pub after : epoch_day date ≡ epoch_day calendar.start +ℤ pos days
  pub working : is_working calendar (epoch_day date) ≡ true
  pub before : working_days calendar (epoch_day calendar.start) days ≡ t

-- no date has exactly t before it: that date would be after 9999-12-31
abbrev pub IsBeyond : Workdays → ℕ → Type 0
IsBeyond calendar t = (date : Date) → IsWorkingDay calendar t date → ⊥

-- one of the seven weekdays is marked
pub record IsWeek (marks : List Bool) : Type 0 where
  pub seven : length marks ≡ 7
  pub some : list_any (λ mark. mark) marks ≡ true
