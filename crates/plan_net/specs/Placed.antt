-- Marks on the activities, and the order in which they were set, as the search for an order keeps
-- them.
use Rattle.std.specs.Prelude.{ℕ, Bool, true, false, ◌≡◌, ◌+◌, ◌-◌, ◌<◌, ◌↔◌, ◌⊎◌, List, [], ◌∷◌, length, take, slice_index, slice_index_or, Contains}
use Rattle.plan_net.specs.Network.{Net, count_of, IsActivity, IsArc, IsLeast}
use Rattle.plan_net.specs.Order.{CanCome}

-- the mark of j is set
abbrev pub IsPlaced : List Bool → ℕ → Type 0
IsPlaced placed j = slice_index_or placed (j - 1) false ≡ true

-- the mark of j is not set
abbrev pub IsOpen : List Bool → ℕ → Type 0
IsOpen placed j = slice_index_or placed (j - 1) false ≡ false

-- j is not marked, and all its predecessors are
abbrev pub IsReady : Net → List Bool → ℕ → Type 0
IsReady net placed j = IsActivity net j × IsOpen placed j × ((i : ℕ) → IsArc net i j → IsPlaced placed i)

-- the number of marks that are not set
abbrev pub open_count : List Bool → ℕ
open_count [] = 0
open_count (true ∷ marks) = open_count marks
open_count (false ∷ marks) = 1 + open_count marks

-- each activity of the order was the least that could come, and the marks are those of its members
pub record IsPlacedOrder (net : Net) (order : List ℕ) (placed : List Bool) : Type 0 where
  pub whole : length placed ≡ count_of net
  pub counted : length order + open_count placed ≡ count_of net
  pub inside : (k : ℕ) → k < length order → IsActivity net (slice_index order k)
  pub marks : (j : ℕ) → IsActivity net j → IsPlaced placed j ↔ Contains order j
  pub least : (k : ℕ) → k < length order → IsLeast (CanCome net (take k order)) (slice_index order k)

-- each open activity has an open predecessor
abbrev pub IsStuck : Net → List Bool → Type 0
IsStuck net placed = (j : ℕ) → IsActivity net j → IsOpen placed j → (i : ℕ) × IsArc net i j × IsOpen placed i

-- each open activity below `first` has an open predecessor
abbrev pub IsStuckBelow : Net → List Bool → ℕ → Type 0
IsStuckBelow net placed first =
    (h : ℕ) → IsActivity net h → h < first → IsOpen placed h → (i : ℕ) × IsArc net i h × IsOpen placed i

-- each open activity below j has an open predecessor, or is a successor of j
abbrev pub IsStuckBelowBut : Net → List Bool → ℕ → Type 0
IsStuckBelowBut net placed j =
    (h : ℕ) → IsActivity net h → h < j → IsOpen placed h → IsArc net j h ⊎ ((i : ℕ) × IsArc net i h × IsOpen placed i)
