-- The intervals in the chart of a job shop, and the lines of its table of working days
-- (docs/definitions.md, "Texts").
use Rattle.std.specs.Prelude.{ℕ, ◌-◌, ◌<◌, List, ◌++◌, map, nat_eq, slice_index, codes}
use Rattle.plan_shop.specs.Shop.{JobShop, count_steps, time_of, machine_of, those_below}
use Rattle.plan_gantt.specs.Column.{number_column}
use Rattle.plan_calendar.specs.WorkingDay.{Workdays}
use Rattle.plan_gantt.specs.CalendarTable.{IsDaysTable, HasDayBeyond}
use Rattle.plan_gantt.specs.ShopTable.{job_number, step_number}
use Rattle.plan_gantt.specs.declared.interval.Interval.{Interval}

-- the interval of a step
abbrev pub step_interval : JobShop → List ℕ → ℕ → Interval
step_interval s starts x = record { start = slice_index starts x; duration = time_of s x }

-- the intervals of the steps on a machine
unfoldable pub machine_intervals : JobShop → List ℕ → ℕ → List Interval
machine_intervals s starts m = map (step_interval s starts) (those_below (count_steps s) (λ x. nat_eq (machine_of s x) m))

-- the heading of the table of working days
abbrev pub step_days_heading : List ℕ
step_days_heading = codes " job    step       first        last\n"

-- the part of a line before a step's days: its job, and its number in the job
abbrev pub step_front : JobShop → ℕ → List ℕ
step_front s x = number_column 4 (job_number s x) ++ number_column 8 (step_number s x)

-- a text is the table of the working days of a shop's steps, in flat order
abbrev pub IsShopCalendarTable : Workdays → JobShop → List ℕ → List ℕ → Type 0
IsShopCalendarTable calendar s starts text =
    IsDaysTable calendar step_days_heading (λ n. step_front s (n - 1)) (λ n. step_interval s starts (n - 1)) (count_steps s) text

-- a day that is shown for some step would be after the last date
abbrev pub HasStepBeyond : Workdays → JobShop → List ℕ → Type 0
HasStepBeyond calendar s starts = (x : ℕ) × (x < count_steps s) × HasDayBeyond calendar (step_interval s starts x)
