-- Plans of a week: what is still to be done from today on (docs/definitions.md, "Weeks").
use Rattle.std.specs.Prelude.{◌≡◌, ℕ, ◌+◌, ◌-◌, ◌≤◌, ◌<◌, ◌&&◌, min, nat_le, nat_lt, cond, Bool, true, false, IsTrue, List, [], length, get_or, map, sum_by, All, Option, Some, None}
use Rattle.plan_sgs.specs.Problem.{Problem, count, duration, need, capacity, total, greatest_below, IsFeasible, makespan}
use Rattle.plan_kernel.specs.declared.input.Arc.{Arc}
use Rattle.plan_kernel.specs.declared.input.Absence.{Absence}
use Rattle.plan_kernel.specs.Inputs.{link_of}
use Rattle.plan_kernel.specs.Plans.{taken_by}
use Rattle.plan_week.specs.declared.week.State.{State}
use Rattle.plan_week.specs.declared.week.State.TheVariants.{Open, Begun, Done}
use Rattle.plan_week.specs.declared.week.Week.{Week}

-- the project of a week, without what has happened
unfoldable pub project_of : Week → Problem
project_of week = record {
  durations = week.durations.items;
  links = map link_of week.arcs.items;
  needs = map (λ row. row.items) week.needs.items;
  capacities = week.capacities.items;
}

-- the state of an activity
abbrev pub state_of : Week → ℕ → State
state_of week i = get_or week.states.items i (Open 0 None)

-- the duration of an activity from today on: all of it if the activity is open, its remaining
-- duration if it has begun, and 0 if it is done
abbrev pub rest : ℕ → State → ℕ
rest lasts (Open earliest fixed) = lasts
rest lasts (Begun began remaining) = remaining
rest lasts (Done ended) = 0

-- the same for an activity by its place
abbrev pub rest_of : Week → ℕ → ℕ
rest_of week i = rest (duration (project_of week) i) (state_of week i)

-- an activity with an appointment starts exactly then
abbrev pub KeepsAppointment : ℕ → Option ℕ → Type 0
KeepsAppointment start None = Unit {0}
KeepsAppointment start (Some fixed) = start ≡ fixed

-- An open activity starts today or later, at its earliest start or later, and at its appointment.
-- A begun activity continues from today, without a break. A done one has ended by today.
abbrev pub KeepsState : ℕ → ℕ → State → Type 0
KeepsState today start (Open earliest fixed) =
    (today ≤ start) × (earliest ≤ start) × KeepsAppointment start fixed
KeepsState today start (Begun began remaining) = start ≡ today
KeepsState today start (Done ended) = start ≡ min ended today

-- an activity that is still to be started
abbrev pub is_open : State → Bool
is_open (Open earliest fixed) = true
is_open (Begun began remaining) = false
is_open (Done ended) = false

-- the end of an activity
abbrev pub end_of : Week → List ℕ → ℕ → ℕ
end_of week starts i = get_or starts i 0 + rest_of week i

-- an activity that is open starts no earlier than the end of a predecessor plus the lag
abbrev pub KeepsArc : Week → List ℕ → Arc → Type 0
KeepsArc week starts arc =
    IsTrue (is_open (state_of week arc.to)) → end_of week starts arc.from + arc.lag ≤ get_or starts arc.to 0

-- the need of an activity for a resource at an instant
abbrev pub needed_by : Week → List ℕ → ℕ → ℕ → ℕ → ℕ
needed_by week starts t k i =
    cond (nat_le (get_or starts i 0) t && nat_lt t (end_of week starts i)) (need (project_of week) i k) 0

-- the need of all activities for a resource at an instant
abbrev pub needed : Week → List ℕ → ℕ → ℕ → ℕ
needed week starts t k = total (count (project_of week)) (needed_by week starts t k)

-- no absence in particular
abbrev pub no_absence : Absence
no_absence = record { resource = 0; from = 0; until = 0; amount = 0 }

-- the absent amount of a resource at an instant
abbrev pub missing : Week → ℕ → ℕ → ℕ
missing week t k = sum_by (taken_by t k) week.absences.items

-- A plan of a week. It has an instant for each activity: the start if it is open, today if it has
-- begun, and the end if it is done. From today on the needs and the absences together are at most
-- the capacity of each resource. Nothing before today is compared.
pub record IsWeekPlan (week : Week) (starts : List ℕ) : Type 0 where
  pub each_started : length starts ≡ count (project_of week)
  pub states : (i : ℕ) → i < count (project_of week) → KeepsState week.today (get_or starts i 0) (state_of week i)
  pub arcs : All (KeepsArc week starts) week.arcs.items
  pub fits : (t k : ℕ) → week.today ≤ t → k < length (project_of week).capacities
      → needed week starts t k + missing week t k ≤ capacity (project_of week) k

-- the makespan: the greatest end of an activity
abbrev pub makespan_of : Week → List ℕ → ℕ
makespan_of week starts = greatest_below (count (project_of week)) (end_of week starts)

-- nothing has happened, nothing is wished and nobody is absent
pub record IsPlainWeek (week : Week) (p : Problem) : Type 0 where
  pub project : project_of week ≡ p
  pub states : (i : ℕ) → state_of week i ≡ Open 0 None
  pub absences : week.absences.items ≡ []
  pub today : week.today ≡ 0

-- then a plan is a feasible list of starts
unfoldable pub PlansAreFeasible : Type 0
PlansAreFeasible =
    (week : Week) (p : Problem) (starts : List ℕ) → IsPlainWeek week p
    → (IsWeekPlan week starts → IsFeasible p starts) × (IsFeasible p starts → IsWeekPlan week starts)

-- with the same makespan
unfoldable pub MakespansStay : Type 0
MakespansStay =
    (week : Week) (p : Problem) (starts : List ℕ) → IsPlainWeek week p → makespan_of week starts ≡ makespan p starts
