-- Verdicts on starts of a week: the first activity that misses a date or starts before a predecessor
-- ends, else the first overload, else feasible (docs/definitions.md, "Weeks").
use Rattle.std.specs.Prelude.{◌≡◌, ◌≢◌, ℕ, ◌+◌, ◌≤◌, ◌<◌, nat_lt, if◌then◌else◌, IsTrue, IsFalse, List, length, get_or, Contains, Option, Some, None}
use Rattle.plan_sgs.specs.Problem.{count, capacity}
use Rattle.plan_sgs.specs.Verdicts.{IsNoLater}
use Rattle.plan_kernel.specs.declared.input.Arc.{Arc}
use Rattle.plan_week.specs.declared.overload.Overload.{Overload}
use Rattle.plan_week.specs.declared.week.State.{State}
use Rattle.plan_week.specs.declared.week.State.TheVariants.{Open, Begun, Done}
use Rattle.plan_week.specs.declared.week.Week.{Week}
use Rattle.plan_week.specs.Weeks.{project_of, state_of, is_open, KeepsState, end_of, needed, missing, IsWeekPlan}
use Rattle.plan_weekverdict.specs.declared.verdict.Miss.{Miss}
use Rattle.plan_weekverdict.specs.declared.verdict.Miss.TheVariants.{Past, Early, Moved}
use Rattle.plan_weekverdict.specs.declared.verdict.WeekVerdict.{WeekVerdict}
use Rattle.plan_weekverdict.specs.declared.verdict.WeekVerdict.TheVariants.{Misplaced, Broken, Over, Feasible}

-- A start for each activity. If an activity isn't open, its start follows from its state.
pub record HasSettled (week : Week) (starts : List ℕ) : Type 0 where
  pub each_started : length starts ≡ count (project_of week)
  pub settled : (i : ℕ) → i < count (project_of week) → IsFalse (is_open (state_of week i))
      → KeepsState week.today (get_or starts i 0) (state_of week i)

-- ---- violations

-- An activity that is open misses its dates: it starts before today, or else before its earliest
-- start, or else not at its appointment.
abbrev pub Misses : ℕ → ℕ → State → Miss → Type 0
Misses today start (Open earliest fixed) (Past day) = (day ≡ today) × (start < today)
Misses today start (Open earliest fixed) (Early date) =
    (date ≡ earliest) × (today ≤ start) × (start < earliest)
Misses today start (Open earliest fixed) (Moved instant date) =
    (instant ≡ start) × (fixed ≡ Some date) × (today ≤ start) × (earliest ≤ start) × (start ≢ date)
Misses today start (Begun began remaining) miss = ⊥
Misses today start (Done ended) miss = ⊥

-- the activity at a place misses its dates
abbrev pub MissesAt : Week → List ℕ → ℕ → Miss → Type 0
MissesAt week starts i miss =
    (i < count (project_of week)) × Misses week.today (get_or starts i 0) (state_of week i) miss

-- an activity that is open starts before the end of a predecessor plus the lag
abbrev pub BreaksArc : Week → List ℕ → Arc → Type 0
BreaksArc week starts arc =
    IsTrue (is_open (state_of week arc.to))
    × (get_or starts arc.to 0 < end_of week starts arc.from + arc.lag)

-- an arc from activity j to activity i is broken
abbrev pub HasBrokenIn : Week → List ℕ → List Arc → ℕ → ℕ → Type 0
HasBrokenIn week starts arcs i j =
    (arc : Arc) × Contains arcs arc × BreaksArc week starts arc × (arc.to ≡ i) × (arc.from ≡ j)

abbrev pub HasBroken : Week → List ℕ → ℕ → ℕ → Type 0
HasBroken week starts = HasBrokenIn week starts week.arcs.items

-- at an instant from today on, needs and absences together are more than the capacity of a resource
pub record IsOver (week : Week) (starts : List ℕ) (k t : ℕ) : Type 0 where
  pub since : week.today ≤ t
  pub resource : k < length (project_of week).capacities
  pub above : capacity (project_of week) k < needed week starts t k + missing week t k

abbrev pub HasNoMiss : Week → List ℕ → Type 0
HasNoMiss week starts = (i : ℕ) (miss : Miss) → MissesAt week starts i miss → ⊥

abbrev pub HasNoBroken : Week → List ℕ → Type 0
HasNoBroken week starts = (i j : ℕ) → HasBroken week starts i j → ⊥

abbrev pub HasNoOver : Week → List ℕ → Type 0
HasNoOver week starts = (k t : ℕ) → IsOver week starts k t → ⊥

pub record HasNoViolation (week : Week) (starts : List ℕ) : Type 0 where
  pub dates : HasNoMiss week starts
  pub arcs : HasNoBroken week starts
  pub overloads : HasNoOver week starts

-- ---- the first violation

-- an activity misses its dates, and none before it does
pub record IsFirstMiss (week : Week) (starts : List ℕ) (i : ℕ) (miss : Miss) : Type 0 where
  pub here : MissesAt week starts i miss
  pub first : (h : ℕ) (other : Miss) → MissesAt week starts h other → i ≤ h

-- An arc from j to i is broken. No broken arc leads to an activity before i, or from an activity
-- before j to i.
pub record IsFirstIn (week : Week) (starts : List ℕ) (arcs : List Arc) (i j : ℕ) : Type 0 where
  pub here : HasBrokenIn week starts arcs i j
  pub first : (h k : ℕ) → HasBrokenIn week starts arcs h k → IsNoLater i j h k

abbrev pub IsFirstBroken : Week → List ℕ → ℕ → ℕ → Type 0
IsFirstBroken week starts = IsFirstIn week starts week.arcs.items

-- an overload; none is at an earlier instant, or at the same instant of an earlier resource
pub record IsFirstOver (week : Week) (starts : List ℕ) (over : Overload) : Type 0 where
  pub here : IsOver week starts over.resource over.instant
  pub first : (k t : ℕ) → IsOver week starts k t → IsNoLater over.instant over.resource t k

-- The verdict on starts. The first activity with a violation decides, and its dates come before its
-- predecessors. Starts without any are a plan.
abbrev pub IsWeekVerdict : Week → List ℕ → WeekVerdict → Type 0
IsWeekVerdict week starts (Misplaced i miss) =
    IsFirstMiss week starts i miss × ((h j : ℕ) → HasBroken week starts h j → i ≤ h)
IsWeekVerdict week starts (Broken i j) =
    IsFirstBroken week starts i j
    × ((h : ℕ) (miss : Miss) → MissesAt week starts h miss → i < h)
IsWeekVerdict week starts (Over over) =
    HasNoMiss week starts × HasNoBroken week starts × IsFirstOver week starts over
IsWeekVerdict week starts Feasible = IsWeekPlan week starts

-- starts have at most one verdict
unfoldable pub AtMostOneVerdict : Type 0
AtMostOneVerdict =
    (week : Week) (starts : List ℕ) (v w : WeekVerdict)
    → IsWeekVerdict week starts v → IsWeekVerdict week starts w → v ≡ w

-- starts are a plan exactly if they have no violation
unfoldable pub PlansHaveNoViolation : Type 0
PlansHaveNoViolation =
    (week : Week) (starts : List ℕ) → HasSettled week starts
    → (HasNoViolation week starts → IsWeekPlan week starts)
    × (IsWeekPlan week starts → HasNoViolation week starts)

-- ---- results of the parts of a check; no public clause cites these

-- the miss of an appointment, or none if the start is at it, or if there is no appointment
abbrev pub IsMoveFrom : Option ℕ → ℕ → Option Miss → Type 0
IsMoveFrom None start result = result ≡ None
IsMoveFrom (Some date) start result =
    (start ≡ date → result ≡ None) × (start ≢ date → result ≡ Some (Moved start date))

-- the first of two pairs, ordered by the first number and then by the second
abbrev pub IsEarlierPair : Option (ℕ × ℕ) → ℕ × ℕ → ℕ × ℕ → Type 0
IsEarlierPair None pair result = result ≡ pair
IsEarlierPair (Some first) pair result =
    (first.0 < pair.0 → result ≡ first) × (pair.0 < first.0 → result ≡ pair)
    × (pair.0 ≡ first.0 → pair.1 < first.1 → result ≡ pair)
    × (pair.0 ≡ first.0 → first.1 ≤ pair.1 → result ≡ first)

-- the first broken one of some arcs, or none
abbrev pub IsFoundAmong : Week → List ℕ → List Arc → Option (ℕ × ℕ) → Type 0
IsFoundAmong week starts arcs None = (i j : ℕ) → HasBrokenIn week starts arcs i j → ⊥
IsFoundAmong week starts arcs (Some found) = IsFirstIn week starts arcs found.0 found.1

-- the verdict of a miss and a broken arc: the one of the first activity, or the miss in a tie
abbrev pub first_of : Option (ℕ × Miss) → Option (ℕ × ℕ) → Option WeekVerdict
first_of None None = None
first_of None (Some arc) = Some (Broken arc.0 arc.1)
first_of (Some miss) None = Some (Misplaced miss.0 miss.1)
first_of (Some miss) (Some arc) =
    if nat_lt arc.0 miss.0 then Some (Broken arc.0 arc.1) else Some (Misplaced miss.0 miss.1)
