-- Holidays among the marked days of a calendar. Marked days have the indices 0, 1, .. from the
-- first date on.
use Rattle.std.specs.Prelude.{◌≡◌, ℕ, suc, ◌≤◌, Bool, true, List, [], ◌∷◌, length, if◌then◌else◌, ℤ, pos, ◌+ℤ◌, Option, Some, None}
use Rattle.std.specs.List.{list_any}
use Rattle.std.specs.List.Sorted.{IsStrictlyIncreasing}
use Rattle.std.specs.Bool.{nat_lt, nat_eq}
use Rattle.jiff_core.specs.Date.{epoch_day}
use Rattle.jiff_core.specs.declared.civil.date.Date.{Date}
use Rattle.plan_calendar.specs.WorkingDay.{is_marked, is_holiday}
use Rattle.plan_calendar.specs.Weeks.{marked_days}
use Rattle.plan_calendar.specs.declared.days_off.DaysOff.{DaysOff}
use Rattle.plan_calendar.specs.declared.days_off.TheConstants.{MOST_HOLIDAYS}

-- the date is the marked day with this index
pub record IsIndex (start : ℤ) (marks : List Bool) (date : Date) (index : ℕ) : Type 0 where
  pub days : ℕ
  pub after : epoch_day date ≡ start +ℤ pos days
  pub marked : is_marked marks (start +ℤ pos days) ≡ true
  pub before : marked_days marks start days ≡ index

-- the number is one of the indices
unfoldable pub has_index : List ℕ → ℕ → Bool
has_index indices n = list_any (nat_eq n) indices

-- the indices are those of the holidays that fall on marked days
abbrev pub AreIndices : ℤ → List Bool → List Date → List ℕ → Type 0
AreIndices start marks holidays indices =
    (days : ℕ) → is_marked marks (start +ℤ pos days) ≡ true
    → has_index indices (marked_days marks start days) ≡ is_holiday holidays (start +ℤ pos days)

-- the indices of the holidays, each once, in ascending order
pub record AreDaysOff (start : ℤ) (marks : List Bool) (holidays : List Date) (indices : List ℕ) : Type 0 where
  pub rising : IsStrictlyIncreasing indices
  pub exact : AreIndices start marks holidays indices
  pub few : length indices ≤ MOST_HOLIDAYS

-- the holidays of a calendar that may have none, and their indices
abbrev pub holidays_of : Option DaysOff → List Date
holidays_of None = []
holidays_of (Some off) = off.holidays.items

abbrev pub indices_of : Option DaysOff → List ℕ
indices_of None = []
indices_of (Some off) = off.indices.items

-- the index of the marked day that has exactly t other marked days before it which aren't among the
-- indices, and isn't among them itself: each index up to it moves it by one
unfoldable pub shifted_by : List ℕ → ℕ → ℕ
shifted_by [] t = t
shifted_by (i ∷ rest) t = if nat_lt t i then t else shifted_by rest (suc t)
