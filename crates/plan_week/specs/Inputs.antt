-- Problems of plan_kernel that have the plans of a week.
use Rattle.std.specs.Prelude.{◌≡◌, ℕ, ◌≤◌, ◌<◌, ◌^◌, max, Bool, List, [], length, get_or, map, filter, All}
use Rattle.plan_kernel.specs.declared.input.Arc.{Arc}
use Rattle.plan_kernel.specs.declared.input.Absence.{Absence}
use Rattle.plan_kernel.specs.declared.input.StartWindow.{StartWindow}
use Rattle.plan_kernel.specs.declared.input.Input.{Input}
use Rattle.plan_kernel.specs.Plans.{IsPlan, cost}
use Rattle.plan_week.specs.declared.week.State.{State}
use Rattle.plan_week.specs.declared.week.Week.{Week}
use Rattle.plan_week.specs.Weeks.{state_of, rest_of, is_open, KeepsState, IsWeekPlan, makespan_of}

-- each start is below 2^32
abbrev pub AreSmall : List ℕ → Type 0
AreSmall starts = All (λ t. t < 2 ^ 32) starts

-- an arc to an activity that is open
abbrev pub leads_on : Week → Arc → Bool
leads_on week arc = is_open (state_of week arc.to)

-- the part of an absence from today on
abbrev pub from_today : ℕ → Absence → Absence
from_today today absence = record absence { from = max absence.from today }

-- the number of activities
abbrev pub count_of : Week → ℕ
count_of week = length week.durations.items

-- no window in particular
abbrev pub no_window : StartWindow
no_window = record { activity = 0; earliest = 0; latest = 0 }

-- a window of an activity has the starts that its state allows
pub record IsWindowOf (today i : ℕ) (state : State) (w : StartWindow) : Type 0 where
  pub activity : w.activity ≡ i
  pub allowed : (start : ℕ) → w.earliest ≤ start → start ≤ w.latest → KeepsState today start state
  pub since : (start : ℕ) → KeepsState today start state → w.earliest ≤ start
  pub until : (start : ℕ) → start < 2 ^ 32 → KeepsState today start state → start ≤ w.latest

-- the windows of all activities
pub record AreWindowsOf (week : Week) (windows : List StartWindow) : Type 0 where
  pub whole : length windows ≡ count_of week
  pub each : (i : ℕ) → i < count_of week → IsWindowOf week.today i (state_of week i) (get_or windows i no_window)

-- the durations that are left
pub record AreRests (week : Week) (durations : List ℕ) : Type 0 where
  pub whole : length durations ≡ count_of week
  pub each : (i : ℕ) → i < count_of week → get_or durations i 0 ≡ rest_of week i

-- the numbers of a week from today on
pub record IsInputOf (week : Week) (input : Input) : Type 0 where
  pub durations : AreRests week input.durations.items
  pub arcs : input.arcs.items ≡ filter (leads_on week) week.arcs.items
  pub needs : map (λ row. row.items) input.needs.items ≡ map (λ row. row.items) week.needs.items
  pub capacities : input.capacities.items ≡ week.capacities.items
  pub windows : AreWindowsOf week input.windows.items
  pub absences : input.absences.items ≡ map (from_today week.today) week.absences.items

-- The plans of a problem are those of a week, if all starts are below 2^32. Their costs are their
-- makespans.
pub record HasPlansOf (week : Week) (input : Input) : Type 0 where
  pub plans : (starts : List ℕ) → IsPlan input starts → IsWeekPlan week starts
  pub all : (starts : List ℕ) → IsWeekPlan week starts → AreSmall starts → IsPlan input starts
  pub costs : (starts : List ℕ) → cost input starts ≡ makespan_of week starts
