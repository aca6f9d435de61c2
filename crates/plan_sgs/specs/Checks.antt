-- Results of the parts of a check. No public clause cites these words (docs/definitions.md,
-- "Schedules").
use Rattle.std.specs.Prelude.{◌≡◌, ℕ, ◌+◌, ◌-◌, ◌≤◌, ◌<◌, List, length, get_or, slice_index, Option, Some, None}
use Rattle.plan_net.specs.Network.{Net, duration_of, lag_of}
use Rattle.plan_profile.specs.InUse.{in_use, capacities}
use Rattle.plan_profile.specs.declared.profile.Profile.{Profile}
use Rattle.plan_sgs.specs.Problem.{Problem, usage, all_placed, KeepsArcs, KeepsCapacities, IsActive}
use Rattle.plan_sgs.specs.Verdicts.{IsFirstBroken, IsFirstOver, IsFirstShift, IsOver}

-- activity j starts too soon after activity i to keep an arc from i to j
abbrev pub IsTooSoon : Net → List ℕ → ℕ → ℕ → Type 0
IsTooSoon net s i j =
    slice_index s (j - 1) < slice_index s (i - 1) + duration_of net i + lag_of net i j

-- the first broken arc by the numbers of its ends, or none
abbrev pub IsBrokenAnswer : Problem → List ℕ → Option (ℕ × ℕ) → Type 0
IsBrokenAnswer p s None = KeepsArcs p s
IsBrokenAnswer p s (Some arc) =
    (0 < arc.0) × (0 < arc.1) × IsFirstBroken p s (arc.0 - 1) (arc.1 - 1)

-- the usage of each resource at an instant
pub record AreNeedsAt (p : Problem) (s : List ℕ) (t : ℕ) (needs : List ℕ) : Type 0 where
  pub whole : length needs ≡ length p.capacities
  pub each : (k : ℕ) → k < length p.capacities → slice_index needs k ≡ usage p (all_placed s) t k

-- an instant is before an overload, or there is none
abbrev pub IsBefore : ℕ → Option (ℕ × ℕ) → Type 0
IsBefore t None = Unit {0}
IsBefore t (Some over) = t < over.0

-- the least overloaded one of the first n starts, with the number of its least overloaded resource
abbrev pub IsOverAmong : Problem → List ℕ → ℕ → Option (ℕ × ℕ) → Type 0
IsOverAmong p s n None = (i k : ℕ) → i < n → IsOver p s (get_or s i 0) k → ⊥
IsOverAmong p s n (Some over) =
    (0 < over.1) × IsOver p s over.0 (over.1 - 1) × ((l : ℕ) → IsOver p s over.0 l → over.1 - 1 ≤ l)
    × ((i k : ℕ) → i < n → IsOver p s (get_or s i 0) k → over.0 ≤ get_or s i 0)

-- the first overload, its resource by its number, or none
abbrev pub IsOverAnswer : Problem → List ℕ → Option (ℕ × ℕ) → Type 0
IsOverAnswer p s None = KeepsCapacities p (all_placed s)
IsOverAnswer p s (Some over) = (0 < over.1) × IsFirstOver p s over.0 (over.1 - 1)

-- before an instant, a profile holds the usage of all activities
pub record HoldsBefore (end : ℕ) (p : Problem) (s : List ℕ) (profile : Profile) : Type 0 where
  pub caps : capacities profile ≡ p.capacities
  pub used : (t k : ℕ) → t < end → k < length p.capacities
      → in_use profile t k ≡ usage p (all_placed s) t k

-- the number of the first activity that can start earlier, or none for an active list
abbrev pub IsShiftAnswer : Problem → List ℕ → Option ℕ → Type 0
IsShiftAnswer p s None = IsActive p s
IsShiftAnswer p s (Some j) = (0 < j) × IsFirstShift p s (j - 1)
