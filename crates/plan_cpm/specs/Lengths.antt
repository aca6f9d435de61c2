-- Greatest lengths of paths (docs/definitions.md, "Dates").
use Rattle.std.specs.Prelude.{ℕ, ◌≡◌, ◌+◌, ◌-◌, ◌≤◌, ◌⊎◌, List, length, slice_index}
use Rattle.plan_net.specs.Network.{Net, count_of, IsActivity, IsArc, lag_of, IsGreatest}
use Rattle.plan_net.specs.Path.{IsPath, last_of, path_length}

-- some path that ends with j has the length w
abbrev pub IsLengthTo : Net → ℕ → ℕ → Type 0
IsLengthTo net j w = (i : ℕ) × (others : List ℕ) × IsPath net i others × (last_of i others ≡ j) × (path_length net i others ≡ w)

-- some path that begins with j has the length w
abbrev pub IsLengthFrom : Net → ℕ → ℕ → Type 0
IsLengthFrom net j w = (others : List ℕ) × IsPath net j others × (path_length net j others ≡ w)

-- some path has the length w
abbrev pub IsLength : Net → ℕ → Type 0
IsLength net w = (i : ℕ) × (others : List ℕ) × IsPath net i others × (path_length net i others ≡ w)

-- for each activity the greatest length of a path that ends with it
pub record AreFinishes (net : Net) (list : List ℕ) : Type 0 where
  pub whole : length list ≡ count_of net
  pub greatest : (j : ℕ) → IsActivity net j → IsGreatest (IsLengthTo net j) (slice_index list (j - 1))

-- for each activity the greatest length of a path that begins with it
pub record AreTails (net : Net) (list : List ℕ) : Type 0 where
  pub whole : length list ≡ count_of net
  pub greatest : (j : ℕ) → IsActivity net j → IsGreatest (IsLengthFrom net j) (slice_index list (j - 1))

-- the entry of each predecessor of j was raised to at least the lag plus `tail`; no other entry
-- changed
pub record RaisesBefore (net : Net) (j tail : ℕ) (before after : List ℕ) : Type 0 where
  pub whole : length after ≡ length before
  pub kept : (x : ℕ) → slice_index before x ≤ slice_index after x
  pub raised : (i : ℕ) → IsArc net i j → lag_of net i j + tail ≤ slice_index after (i - 1)
  pub reached : (x : ℕ) → (slice_index after x ≡ slice_index before x) ⊎ ((i : ℕ) × IsArc net i j × (x ≡ i - 1) × (slice_index after x ≡ lag_of net i j + tail))

-- no arc has a lag
abbrev pub HasNoLag : Net → Type 0
HasNoLag net = (i j : ℕ) → IsArc net i j → lag_of net i j ≡ 0
