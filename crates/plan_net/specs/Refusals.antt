-- The errors of a network, in the order of the tests (docs/definitions.md, "Networks").
use Rattle.std.specs.Prelude.{ℕ, ◌≡◌, ◌≤◌, ◌<◌, ◌++◌, ◌∷◌, [], take, drop, slice_get, slice_index, Some, Contains, All}
use Rattle.plan_net.specs.Network.{Net, IsActivity, IsArc}
use Rattle.plan_net.specs.Path.{IsCycle}
use Rattle.plan_net.specs.Cycle.{IsNamedCycle}
use Rattle.plan_net.specs.Limits.{longest_lag, HasGoodSize, HasGoodDurations, HasGoodArcs, HasNewArcs, IsGoodDuration, IsGoodArc, IsNewArc}
use Rattle.plan_net.specs.declared.fault.NetFault.{NetFault}
use Rattle.plan_net.specs.declared.fault.NetFault.TheVariants.{NoMemory, Size, BadDuration, BadArc, DoubleArc, Cycle, NoArc, BadLag}

-- j is the first activity with a bad duration
abbrev pub IsFirstBadDuration : Net → ℕ → Type 0
IsFirstBadDuration net j =
    IsActivity net j × (IsGoodDuration net j → ⊥) × ((k : ℕ) → 1 ≤ k → k < j → IsGoodDuration net k)

-- the first arc with an end outside 1 to n
abbrev pub IsFirstBadArc : Net → ℕ × ℕ → Type 0
IsFirstBadArc net arc =
    (k : ℕ) × (slice_get net.arcs k ≡ Some arc) × (IsGoodArc net arc → ⊥) × All (IsGoodArc net) (take k net.arcs)

-- the first arc that equals an earlier one
abbrev pub IsFirstDoubleArc : Net → ℕ × ℕ → Type 0
IsFirstDoubleArc net arc =
    (k : ℕ) × (slice_get net.arcs k ≡ Some arc) × Contains (take k net.arcs) arc × ((m : ℕ) → m < k → IsNewArc net m)

-- the error is the first one of the network
abbrev pub IsFirstFault : Net → NetFault → Type 0
IsFirstFault net NoMemory = Unit {0}
IsFirstFault net Size = HasGoodSize net → ⊥
IsFirstFault net (BadDuration j) = HasGoodSize net × IsFirstBadDuration net j
IsFirstFault net (BadArc i j) = HasGoodSize net × HasGoodDurations net × IsFirstBadArc net (i, j)
IsFirstFault net (DoubleArc i j) = HasGoodSize net × HasGoodDurations net × HasGoodArcs net × IsFirstDoubleArc net (i, j)
IsFirstFault net (Cycle members) =
    HasGoodSize net × HasGoodDurations net × HasGoodArcs net × HasNewArcs net × IsNamedCycle net members.items
IsFirstFault net (NoArc i j) = ⊥
IsFirstFault net (BadLag i j) = ⊥

-- a cycle, or out of memory
abbrev pub IsCycleOrMemory : NetFault → Type 0
IsCycleOrMemory (Cycle members) = Unit {0}
IsCycleOrMemory NoMemory = Unit {0}
IsCycleOrMemory _ = ⊥

-- the error is the first one of setting the lag from i to j to w
abbrev pub IsLagFault : Net → ℕ → ℕ → ℕ → NetFault → Type 0
IsLagFault net i j w NoMemory = ⊥
IsLagFault net i j w Size = ⊥
IsLagFault net i j w (BadDuration h) = ⊥
IsLagFault net i j w (BadArc h k) = ⊥
IsLagFault net i j w (DoubleArc h k) = ⊥
IsLagFault net i j w (Cycle members) = ⊥
IsLagFault net i j w (NoArc h k) = (h ≡ i) × (k ≡ j) × (IsArc net i j → ⊥)
IsLagFault net i j w (BadLag h k) = (h ≡ i) × (k ≡ j) × IsArc net i j × (longest_lag < w)

-- an error that names a cycle names a cycle of the network
abbrev pub NamesCycle : Net → NetFault → Type 0
NamesCycle net NoMemory = Unit {0}
NamesCycle net Size = Unit {0}
NamesCycle net (BadDuration j) = Unit {0}
NamesCycle net (BadArc i j) = Unit {0}
NamesCycle net (DoubleArc i j) = Unit {0}
NamesCycle net (Cycle members) = IsCycle net (slice_index members.items 0) (drop 1 members.items ++ slice_index members.items 0 ∷ [])
NamesCycle net (NoArc i j) = Unit {0}
NamesCycle net (BadLag i j) = Unit {0}
