-- The representation of usage in a profile: the instants at which it changes, and a row of amounts
-- for the time before the first change and from each change on. The rows follow one another in one
-- list. No public contract uses these definitions. See "Schedules" in docs/definitions.md.
use Rattle.std.specs.Prelude.{◌≡◌, ℕ, ◌+◌, ◌*◌, ◌≤◌, ◌<◌, nat_le, List, [], length, map, take, drop}
use Rattle.std.specs.Prelude.{count_by, slice_index, slice_index_or, Contains}
use Rattle.std.specs.List.{range_with_len}
use Rattle.plan_profile.specs.Usage.{IsRising, used_before}

-- the number of changes up to t
abbrev pub changes_until : List ℕ → ℕ → ℕ
changes_until changes t = count_by (λ c. nat_le c t) changes

-- row i of a list of amounts that consists of rows of one width
abbrev pub row_at : ℕ → List ℕ → ℕ → List ℕ
row_at width amounts i = take width (drop (i * width) amounts)

-- these rows, one more than there are changes
unfoldable pub lists : ℕ → List ℕ → List ℕ → List (List ℕ)
lists width changes amounts = map (row_at width amounts) (range_with_len 0 (length changes + 1))

-- the number of amounts is that of these rows
abbrev pub AreRows : ℕ → List ℕ → List ℕ → Type 0
AreRows width changes amounts = length amounts ≡ (length changes + 1) * width

-- the amount of resource k in row i
abbrev pub amount_at : List (List ℕ) → ℕ → ℕ → ℕ
amount_at rows i k = slice_index (slice_index_or rows i []) k

-- the amount of resource k at instant t: that of the row after the last change up to t
unfoldable pub amount : List ℕ → List (List ℕ) → ℕ → ℕ → ℕ
amount changes rows t k = amount_at rows (changes_until changes t) k

-- rising changes and one row more; all rows are as long as the first, whose amounts are all 0
pub record IsSteps (changes : List ℕ) (rows : List (List ℕ)) : Type 0 where
  pub one_more : length rows ≡ length changes + 1
  pub even : (i : ℕ) → i < length rows
      → length (slice_index_or rows i []) ≡ length (slice_index_or rows 0 [])
  pub rising : IsRising changes
  pub none_first : (k : ℕ) → amount_at rows 0 k ≡ 0

-- at each of these instants some amount differs from that at the instant before
abbrev pub AreChanges : List ℕ → (ℕ → ℕ → ℕ) → Type 0
AreChanges changes used =
    (c : ℕ) → Contains changes c → ((k : ℕ) → used c k ≡ used_before used c k) → ⊥

-- nothing is in use from an instant on
abbrev pub IsEndedBy : ℕ → List ℕ → List (List ℕ) → Type 0
IsEndedBy last changes rows = (t k : ℕ) → last ≤ t → amount changes rows t k ≡ 0

-- needs, added to the amounts of row i, keep the capacities
abbrev pub HasRoomAt : List ℕ → List (List ℕ) → List ℕ → ℕ → Type 0
HasRoomAt caps rows needs i =
    (k : ℕ) → k < length caps → amount_at rows i k + slice_index needs k ≤ slice_index caps k
