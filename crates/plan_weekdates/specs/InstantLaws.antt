-- The law of instants and working days.
use Rattle.std.specs.Prelude.{◌≡◌, ℕ, ◌+◌}
use Rattle.jiff_core.specs.declared.civil.date.Date.{Date}
use Rattle.plan_calendar.specs.WorkingDay.{IsWorkingDay, Workdays}
use Rattle.plan_weekdates.specs.Instants.{instant_before, instant_behind}

-- the working day of an instant begins at that instant and ends at the next one
unfoldable pub DaysHaveTheirInstants : Type 0
DaysHaveTheirInstants = (calendar : Workdays) (t : ℕ) (date : Date) → IsWorkingDay calendar t date
    → (instant_before calendar date ≡ t) × (instant_behind calendar date ≡ t + 1)
