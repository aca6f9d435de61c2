-- Marks on the activities that paths reach, as the search for successors keeps them.
use Rattle.std.specs.Prelude.{ℕ, Bool, ◌≡◌, ◌-◌, ◌≤◌, ◌↔◌, List, length, Vec}
use Rattle.std.specs.declared.alloc.Global.{Global}
use Rattle.plan_net.specs.Network.{Net, count_of, IsActivity, IsArc}
use Rattle.plan_net.specs.Path.{IsPath, last_of}
use Rattle.plan_net.specs.Placed.{IsPlaced}
use Rattle.plan_net.specs.Indexed.{row_at}

-- a path of two entries or more leads from j to k
abbrev pub Leads : Net → ℕ → ℕ → Type 0
Leads net j k = (others : List ℕ) × IsPath net j others × (1 ≤ length others) × (last_of j others ≡ k)

-- the marks are those of the activities to which paths lead from j
pub record IsReach (net : Net) (j : ℕ) (row : List Bool) : Type 0 where
  pub whole : length row ≡ count_of net
  pub exact : (k : ℕ) → IsActivity net k → IsPlaced row k ↔ Leads net j k

-- a path leads from j to each marked activity, and all activities that paths from a marked one
-- reach are marked
pub record IsReachSoFar (net : Net) (j : ℕ) (row : List Bool) : Type 0 where
  pub whole : length row ≡ count_of net
  pub led : (k : ℕ) → IsActivity net k → IsPlaced row k → Leads net j k
  pub closed : (k h : ℕ) → IsActivity net k → IsPlaced row k → Leads net k h → IsPlaced row h

-- the rows of the successors of j are correct
abbrev pub AreReachesAfter : Net → ℕ → List (Vec Bool Global) → Type 0
AreReachesAfter net j rows = (k : ℕ) → IsArc net j k → IsReach net k (row_at rows (k - 1))

-- the row of each activity is correct
pub record AreReaches (net : Net) (rows : List (Vec Bool Global)) : Type 0 where
  pub whole : length rows ≡ count_of net
  pub each : (j : ℕ) → IsActivity net j → IsReach net j (row_at rows (j - 1))
