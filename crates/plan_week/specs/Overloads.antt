-- Overloads: more is needed by what can't be moved, and absent, than there is (docs/definitions.md,
-- "Weeks").
use Rattle.std.specs.Prelude.{◌≡◌, ℕ, ◌+◌, ◌≤◌, ◌<◌, ◌&&◌, ◌⊎◌, nat_le, nat_lt, cond, List, length, get_or, Option, Some, None}
use Rattle.plan_sgs.specs.Problem.{count, need, capacity, total}
use Rattle.plan_week.specs.declared.week.State.{State}
use Rattle.plan_week.specs.declared.week.State.TheVariants.{Open, Begun, Done}
use Rattle.plan_week.specs.declared.week.Week.{Week}
use Rattle.plan_week.specs.declared.overload.Overload.{Overload}
use Rattle.plan_week.specs.Weeks.{project_of, state_of, rest_of, missing, no_absence, IsWeekPlan}

-- the start of an activity that can't be moved: an appointment, or today for what has begun
abbrev pub settled_start : ℕ → State → Option ℕ
settled_start today (Open earliest fixed) = fixed
settled_start today (Begun began remaining) = Some today
settled_start today (Done ended) = None

-- the need of an activity with such a start for a resource at an instant
abbrev pub held_from : Week → ℕ → ℕ → ℕ → Option ℕ → ℕ
held_from week t k i None = 0
held_from week t k i (Some start) =
    cond (nat_le start t && nat_lt t (start + rest_of week i)) (need (project_of week) i k) 0

abbrev pub held_by : Week → ℕ → ℕ → ℕ → ℕ
held_by week t k i = held_from week t k i (settled_start week.today (state_of week i))

-- the need of begun work and appointments for a resource at an instant
abbrev pub held : Week → ℕ → ℕ → ℕ
held week t k = total (count (project_of week)) (held_by week t k)

-- begun work, appointments and absences alone are more than there is of a resource at an instant
pub record IsOverload (week : Week) (k t : ℕ) : Type 0 where
  pub since : week.today ≤ t
  pub resource : k < length (project_of week).capacities
  pub above : capacity (project_of week) k < held week t k + missing week t k

-- an instant is the start of something that can't be moved
abbrev pub IsSettled : Week → ℕ → Type 0
IsSettled week t = (i : ℕ) × (i < count (project_of week)) × (settled_start week.today (state_of week i) ≡ Some t)

-- an instant is the begin of an absence
abbrev pub IsLeaving : Week → ℕ → Type 0
IsLeaving week t =
    (j : ℕ) × (j < length week.absences.items) × ((get_or week.absences.items j no_absence).from ≡ t)

-- an overload can begin today, with something that can't be moved, or with an absence
abbrev pub BeginsAt : Week → ℕ → Type 0
BeginsAt week t = (t ≡ week.today) ⊎ (IsSettled week t ⊎ IsLeaving week t)

-- an overload is the first one of those at some instants, with its least resource
pub record IsFirstOf (week : Week) (instants : ℕ → Type 0) (overload : Overload) : Type 0 where
  pub here : IsOverload week overload.resource overload.instant
  pub first : (k t : ℕ) → instants t → IsOverload week k t → overload.instant ≤ t
  pub least : (k : ℕ) → IsOverload week k overload.instant → overload.resource ≤ k

-- there is none at some instants
abbrev pub HasNoneOf : Week → (ℕ → Type 0) → Type 0
HasNoneOf week instants = (k t : ℕ) → instants t → IsOverload week k t → ⊥

-- the first overload at some instants, if there is one
abbrev pub IsFoundOf : Week → (ℕ → Type 0) → Option Overload → Type 0
IsFoundOf week instants None = HasNoneOf week instants
IsFoundOf week instants (Some overload) = IsFirstOf week instants overload

-- the earlier one of two overloads
abbrev pub IsEarlier : Option Overload → Option Overload → Option Overload → Type 0
IsEarlier None other result = result ≡ other
IsEarlier (Some first) None result = result ≡ Some first
IsEarlier (Some first) (Some second) result =
    (first.instant ≤ second.instant → result ≡ Some first) × (second.instant < first.instant → result ≡ Some second)

-- the first overload of a week, with its least resource
abbrev pub IsFirstOverload : Week → Overload → Type 0
IsFirstOverload week overload = IsFirstOf week (λ t. Unit {0}) overload

-- there is none
abbrev pub HasNoOverload : Week → Type 0
HasNoOverload week = (k t : ℕ) → IsOverload week k t → ⊥

-- a week with an overload has no plan
unfoldable pub OverloadsLeaveNoPlan : Type 0
OverloadsLeaveNoPlan =
    (week : Week) (k t : ℕ) (starts : List ℕ) → IsOverload week k t → IsWeekPlan week starts → ⊥
