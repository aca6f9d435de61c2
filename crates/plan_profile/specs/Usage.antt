-- Usage of resources over time: the intervals that fit, the amounts that an interval adds, and the
-- instants of change. A usage is a function of an instant and of a resource's index from 0. See
-- "Schedules" in docs/definitions.md; the resource profiles of project scheduling (Kolisch and
-- Hartmann 1999).
use Rattle.std.specs.Prelude.{◌≢◌, ℕ, zero, suc, ◌+◌, ◌≤◌, ◌<◌, ◌&&◌, if◌then◌else◌, nat_le, nat_lt, List, length, slice_index, EachIndex}

-- needs are within the capacities
abbrev pub FitsEmpty : List ℕ → List ℕ → Type 0
FitsEmpty caps needs = EachIndex caps (λ k. slice_index needs k ≤ slice_index caps k)

-- needs, added to the usage, keep the capacities at each of the d instants from start on
abbrev pub Fits : List ℕ → (ℕ → ℕ → ℕ) → ℕ → ℕ → List ℕ → Type 0
Fits caps used start d needs =
    (x k : ℕ) → x < d → k < length caps → used (start + x) k + slice_index needs k ≤ slice_index caps k

-- t is no later than the end of time
abbrev pub IsInTime : ℕ → Type 0
IsInTime t = t ≤ 10000000

-- t is the least instant from `first` on at which an interval fits
pub record IsEarliest (caps : List ℕ) (used : ℕ → ℕ → ℕ) (first d : ℕ) (needs : List ℕ) (t : ℕ) : Type 0 where
  pub since : first ≤ t
  pub fitting : Fits caps used t d needs
  pub least : (u : ℕ) → first ≤ u → Fits caps used u d needs → t ≤ u

-- the usage with the needs of an interval added at its instants
abbrev pub used_with : (ℕ → ℕ → ℕ) → ℕ → ℕ → List ℕ → ℕ → ℕ → ℕ
used_with used start d needs t k =
    used t k + (if nat_le start t && nat_lt t (start + d) then slice_index needs k else 0)

-- the usage at the instant before, 0 for instant 0
abbrev pub used_before : (ℕ → ℕ → ℕ) → ℕ → ℕ → ℕ
used_before used zero k = 0
used_before used (suc t) k = used t k

-- the usage of one of n resources differs from that at the instant before
abbrev pub IsChange : ℕ → (ℕ → ℕ → ℕ) → ℕ → Type 0
IsChange n used t = (k : ℕ) × (k < n) × (used t k ≢ used_before used t k)

-- each instant is later than those before it
abbrev pub IsRising : List ℕ → Type 0
IsRising xs = (i j : ℕ) → i < j → j < length xs → slice_index xs i < slice_index xs j
