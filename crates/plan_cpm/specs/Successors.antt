-- Direct and indirect successors (docs/definitions.md, "Dates").
use Rattle.std.specs.Prelude.{ℕ, ◌≡◌, ◌≢◌, ◌-◌, List, length, slice_index}
use Rattle.plan_net.specs.Network.{Net, count_of, IsActivity, ListsRising}
use Rattle.plan_net.specs.Path.{IsPath, last_of}

-- k is another activity, at the end of a path that begins with j
abbrev pub IsTotalSuccessor : Net → ℕ → ℕ → Type 0
IsTotalSuccessor net j k = (k ≢ j) × ((others : List ℕ) × IsPath net j others × (last_of j others ≡ k))

-- count is the number of numbers with P
pub record IsCountOf (P : ℕ → Type 0) (count : ℕ) : Type 0 where
  pub members : List ℕ
  pub lists : ListsRising P members
  pub long : length members ≡ count

-- for each activity the number of its total successors
pub record AreTotals (net : Net) (list : List ℕ) : Type 0 where
  pub whole : length list ≡ count_of net
  pub each : (j : ℕ) → IsActivity net j → IsCountOf (IsTotalSuccessor net j) (slice_index list (j - 1))
