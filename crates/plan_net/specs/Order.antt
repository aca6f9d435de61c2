-- The topological order that always takes the least activity that can come (docs/definitions.md,
-- "Networks").
use Rattle.std.specs.Prelude.{ℕ, ◌≡◌, ◌<◌, List, length, take, slice_index, Contains}
use Rattle.plan_net.specs.Network.{Net, count_of, IsActivity, IsArc, IsLeast}

-- j is not placed yet, and all its predecessors are
abbrev pub CanCome : Net → List ℕ → ℕ → Type 0
CanCome net placed j =
    IsActivity net j × (Contains placed j → ⊥) × ((i : ℕ) → IsArc net i j → Contains placed i)

-- all activities, each after its predecessors, always the least one that can come
pub record IsLeastOrder (net : Net) (order : List ℕ) : Type 0 where
  pub whole : length order ≡ count_of net
  pub each : (j : ℕ) → IsActivity net j → Contains order j
  pub least : (k : ℕ) → k < length order → IsLeast (CanCome net (take k order)) (slice_index order k)

-- i is in the list before index k
abbrev pub StandsBefore : List ℕ → ℕ → ℕ → Type 0
StandsBefore order k i = Contains (take k order) i

-- each predecessor of an activity is earlier in the order
abbrev pub IsTopological : Net → List ℕ → Type 0
IsTopological net order =
    (k i : ℕ) → k < length order → IsArc net i (slice_index order k) → StandsBefore order k i
