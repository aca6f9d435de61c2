-- Due dates: the tardiness of a plan of a week (docs/definitions.md, "Weeks").
use Rattle.std.specs.Prelude.{◌≡◌, ℕ, ◌+◌, ◌-◌, ◌≤◌, ◌<◌, ◌^◌, List, length, get_or, Option, Some, None}
use Rattle.plan_sgs.specs.Problem.{count, greatest_below}
use Rattle.plan_kernel.specs.declared.input.StartWindow.{StartWindow}
use Rattle.plan_kernel.specs.declared.input.Input.{Input}
use Rattle.plan_kernel.specs.Plans.{IsPlan, cost}
use Rattle.plan_week.specs.declared.week.Week.{Week}
use Rattle.plan_week.specs.Weeks.{project_of, rest_of, end_of, IsWeekPlan, makespan_of}
use Rattle.plan_week.specs.Inputs.{AreSmall, count_of, no_window}

-- the due date of an activity, if it has one
abbrev pub wish_of : Week → ℕ → Option ℕ
wish_of week i = get_or week.dues.items i None

-- a date, or another one if there is none
abbrev pub date_or : ℕ → Option ℕ → ℕ
date_or other None = other
date_or other (Some date) = date

-- the latest due date, 0 if there is none
abbrev pub latest_due : Week → ℕ
latest_due week = greatest_below (count (project_of week)) (λ i. date_or 0 (wish_of week i))

-- the due date of an activity; an activity without one is due at the latest due date
abbrev pub due_of : Week → ℕ → ℕ
due_of week i = date_or (latest_due week) (wish_of week i)

-- the tardiness of an activity: its end minus its due date, at least 0
abbrev pub tardiness_of : Week → List ℕ → ℕ → ℕ
tardiness_of week starts i = end_of week starts i - due_of week i

-- the greatest tardiness of an activity
abbrev pub greatest_tardiness : Week → List ℕ → ℕ
greatest_tardiness week starts = greatest_below (count (project_of week)) (tardiness_of week starts)

-- the latest due date minus the due date of an activity
abbrev pub tail_of : Week → ℕ → ℕ
tail_of week i = latest_due week - due_of week i

-- the tails of all activities
pub record AreTailsOf (week : Week) (tails : List ℕ) : Type 0 where
  pub whole : length tails ≡ count_of week
  pub each : (i : ℕ) → i < count_of week → get_or tails i 0 ≡ tail_of week i

-- The plans of a problem are those of a week, if all starts are below 2^32. Their costs less the
-- latest due date are their greatest tardiness, and no cost is above the makespan and the latest
-- due date.
pub record HasTardiness (week : Week) (input : Input) : Type 0 where
  pub plans : (starts : List ℕ) → IsPlan input starts → IsWeekPlan week starts
  pub all : (starts : List ℕ) → IsWeekPlan week starts → AreSmall starts → IsPlan input starts
  pub costs : (starts : List ℕ) → cost input starts - latest_due week ≡ greatest_tardiness week starts
  pub within : (starts : List ℕ) → cost input starts ≤ makespan_of week starts + latest_due week

-- a window of an activity has the starts with which it ends by an instant
pub record IsWindowBy (i lasts end : ℕ) (w : StartWindow) : Type 0 where
  pub activity : w.activity ≡ i
  pub allowed : (start : ℕ) → w.earliest ≤ start → start ≤ w.latest → start + lasts ≤ end
  pub since : (start : ℕ) → start + lasts ≤ end → w.earliest ≤ start
  pub until : (start : ℕ) → start < 2 ^ 32 → start + lasts ≤ end → start ≤ w.latest

-- windows with which no activity is later than so much
pub record AreLimitsOf (week : Week) (late : ℕ) (windows : List StartWindow) : Type 0 where
  pub whole : length windows ≡ count_of week
  pub each : (i : ℕ) → i < count_of week
      → IsWindowBy i (rest_of week i) (due_of week i + late) (get_or windows i no_window)

-- The plans of a problem are those of a week in which no activity is later than so much, if all
-- starts are below 2^32. Their costs are their makespans.
pub record HasPlansWithin (week : Week) (late : ℕ) (input : Input) : Type 0 where
  pub plans : (starts : List ℕ) → IsPlan input starts → IsWeekPlan week starts
  pub in_time : (starts : List ℕ) → IsPlan input starts → greatest_tardiness week starts ≤ late
  pub all : (starts : List ℕ) → IsWeekPlan week starts → greatest_tardiness week starts ≤ late
      → AreSmall starts → IsPlan input starts
  pub costs : (starts : List ℕ) → cost input starts ≡ makespan_of week starts
