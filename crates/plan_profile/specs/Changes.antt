-- Changes of steps while an interval is placed: an instant is inserted, needs are added to rows,
-- and an instant at which no amount changes is removed. No public contract uses these definitions.
use Rattle.std.specs.Prelude.{◌≡◌, ◌≢◌, ℕ, ◌+◌, ◌*◌, ◌^◌, ◌≤◌, ◌<◌, ◌&&◌, ◌⊎◌, if◌then◌else◌}
use Rattle.std.specs.Prelude.{nat_le, nat_lt, List, [], length}
use Rattle.std.specs.Prelude.{slice_index, slice_index_or, Contains}
use Rattle.plan_profile.specs.Usage.{used_before}
use Rattle.plan_profile.specs.Steps.{amount_at, amount, IsSteps, AreChanges}

-- a row is as long as the others, and has the amounts at an instant
pub record IsRowOf (changes : List ℕ) (rows : List (List ℕ)) (t : ℕ) (row : List ℕ) : Type 0 where
  pub even : length row ≡ length (slice_index_or rows 0 [])
  pub each : (k : ℕ) → slice_index row k ≡ amount changes rows t k

-- steps with the same amounts at all instants
pub record IsSameUsage (changes : List ℕ) (rows : List (List ℕ)) (changes2 : List ℕ)
    (rows2 : List (List ℕ)) : Type 0 where
  pub steps : IsSteps changes2 rows2
  pub first : slice_index_or rows2 0 [] ≡ slice_index_or rows 0 []
  pub same : (t k : ℕ) → amount changes2 rows2 t k ≡ amount changes rows t k

-- the same amounts, with one more instant among the changes
pub record IsCut (changes : List ℕ) (rows : List (List ℕ)) (at : ℕ) (changes2 : List ℕ)
    (rows2 : List (List ℕ)) : Type 0 where
  pub usage : IsSameUsage changes rows changes2 rows2
  pub there : Contains changes2 at
  pub kept : (c : ℕ) → Contains changes c → Contains changes2 c
  pub only : (c : ℕ) → Contains changes2 c → Contains changes c ⊎ (c ≡ at)

-- the same amounts, with an instant among the changes only if some amount changes there
pub record IsMerged (changes : List ℕ) (rows : List (List ℕ)) (at : ℕ) (changes2 : List ℕ)
    (rows2 : List (List ℕ)) : Type 0 where
  pub usage : IsSameUsage changes rows changes2 rows2
  pub kept : (c : ℕ) → Contains changes c → c ≢ at → Contains changes2 c
  pub only : (c : ℕ) → Contains changes2 c → Contains changes c
  pub true_change : Contains changes2 at
      → ((k : ℕ) → amount changes rows at k ≡ used_before (amount changes rows) at k) → ⊥

-- a row with needs added
pub record IsRowWith (row needs sums : List ℕ) : Type 0 where
  pub even : length sums ≡ length row
  pub each : (k : ℕ) → slice_index sums k ≡ slice_index row k + slice_index needs k

-- rows with needs added from one index to before another
pub record IsRaised (rows : List (List ℕ)) (from to : ℕ) (needs : List ℕ)
    (rows2 : List (List ℕ)) : Type 0 where
  pub size : length rows2 ≡ length rows
  pub even : (i : ℕ) → length (slice_index_or rows2 i []) ≡ length (slice_index_or rows i [])
  pub each : (i k : ℕ) → amount_at rows2 i k
      ≡ amount_at rows i k + (if nat_le from i && nat_lt i to then slice_index needs k else 0)

-- amounts of rows as wide as there are needs, with the needs added from one row to before another
pub record AreRaised (amounts : List ℕ) (from to : ℕ) (needs amounts2 : List ℕ) : Type 0 where
  pub size : length amounts2 ≡ length amounts
  pub each : (i k : ℕ) → k < length needs → slice_index amounts2 (i * length needs + k)
      ≡ slice_index amounts (i * length needs + k)
      + (if nat_le from i && nat_lt i to then slice_index needs k else 0)

-- the sums of needs and amounts fit into 64 bits, from one row to before another
abbrev pub HaveSums : List ℕ → ℕ → ℕ → List ℕ → Type 0
HaveSums amounts from to needs =
    (i k : ℕ) → from ≤ i → i < to → k < length needs
    → slice_index amounts (i * length needs + k) + slice_index needs k < 2 ^ 64

-- the sums of needs and rows fit into 64 bits, from one index to before another
abbrev pub HasSums : List (List ℕ) → ℕ → ℕ → List ℕ → Type 0
HasSums rows from to needs =
    (i k : ℕ) → from ≤ i → i < to → k < length needs
    → amount_at rows i k + slice_index needs k < 2 ^ 64

-- the sums of needs and amounts fit into 64 bits, from one instant to before another
abbrev pub HasSumsBetween : List ℕ → List (List ℕ) → ℕ → ℕ → List ℕ → Type 0
HasSumsBetween changes rows start end needs =
    (t k : ℕ) → start ≤ t → t < end → k < length needs
    → amount changes rows t k + slice_index needs k < 2 ^ 64

-- steps with needs added from one instant to before another; at each change some amount changes
pub record IsPlaced (changes : List ℕ) (rows : List (List ℕ)) (start end : ℕ) (needs : List ℕ)
    (changes2 : List ℕ) (rows2 : List (List ℕ)) : Type 0 where
  pub steps : IsSteps changes2 rows2
  pub first : slice_index_or rows2 0 [] ≡ slice_index_or rows 0 []
  pub each : (t k : ℕ) → amount changes2 rows2 t k
      ≡ amount changes rows t k
      + (if nat_le start t && nat_lt t end then slice_index needs k else 0)
  pub true_changes : AreChanges changes2 (amount changes2 rows2)
