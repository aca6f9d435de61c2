-- The marks of the days from a weekday on, or by day numbers. Weekday 0 is Monday.
use Rattle.std.specs.Prelude.{◌≡◌, ℕ, zero, suc, ◌+◌, ◌%◌, Bool, true, false, List, slice_index_or, ℤ, pos, ◌+ℤ◌}
use Rattle.plan_calendar.specs.WorkingDay.{one_if, is_marked}

-- the mark of the day that is `days` after the weekday
unfoldable pub mark_after : List Bool → ℕ → ℕ → Bool
mark_after marks weekday days = slice_index_or marks ((weekday + days) % 7) false

-- the number of marked days among the first n days from the weekday on
unfoldable pub marks_before : List Bool → ℕ → ℕ → ℕ
marks_before marks weekday zero = 0
marks_before marks weekday (suc n) = marks_before marks weekday n + one_if (mark_after marks weekday n)

-- the day is marked, and exactly t are before it
pub record IsMarkedAfter (marks : List Bool) (weekday t days : ℕ) : Type 0 where
  pub marked : mark_after marks weekday days ≡ true
  pub before : marks_before marks weekday days ≡ t

-- the number of marked days among the first n days from a day on
unfoldable pub marked_days : List Bool → ℤ → ℕ → ℕ
marked_days marks day zero = 0
marked_days marks day (suc n) = marked_days marks day n + one_if (is_marked marks (day +ℤ pos n))
