-- The cycle that the error of a network names (docs/definitions.md, "Networks").
use Rattle.std.specs.Prelude.{ℕ, suc, zero, Bool, true, ◌≡◌, ◌≢◌, ◌+◌, ◌-◌, ◌≤◌, ◌<◌, ◌↔◌, List, length, slice_index, Contains}
use Rattle.plan_net.specs.Network.{Net, IsArc, IsLeast}

-- each member of a set, given as a test, has a predecessor in it
abbrev pub IsFed : Net → (ℕ → Bool) → Type 0
IsFed net set = (j : ℕ) → set j ≡ true → (i : ℕ) × (set i ≡ true) × IsArc net i j

-- a member of the largest set of activities in which each member has a predecessor in the set
abbrev pub IsCaught : Net → ℕ → Type 0
IsCaught net j = (set : ℕ → Bool) × IsFed net set × (set j ≡ true)

-- i is the least of j's predecessors that are in that set
abbrev pub IsLeastCaughtBefore : Net → ℕ → ℕ → Type 0
IsLeastCaughtBefore net j i = IsLeast (λ h. IsCaught net h × IsArc net h j) i

-- a walk of so many steps from the least member of that set, each to the least predecessor in it,
-- ends at j
abbrev pub Comes : Net → ℕ → ℕ → Type 0
Comes net zero j = IsLeast (IsCaught net) j
Comes net (suc steps) j = (k : ℕ) × Comes net steps k × IsLeastCaughtBefore net k j

-- the walk reaches j again after every number of steps
abbrev pub Recurs : Net → ℕ → Type 0
Recurs net j = (steps : ℕ) → (later : ℕ) × (steps ≤ later) × Comes net later j

-- the named cycle: the activities that recur, each once, along the arcs, from the least member
pub record IsNamedCycle (net : Net) (members : List ℕ) : Type 0 where
  pub some : 1 ≤ length members
  pub along : (k : ℕ) → k + 1 < length members → IsLeastCaughtBefore net (slice_index members (k + 1)) (slice_index members k)
  pub around : IsLeastCaughtBefore net (slice_index members 0) (slice_index members (length members - 1))
  pub least : (j : ℕ) → Contains members j → slice_index members 0 ≤ j
  pub once : (a b : ℕ) → a < b → b < length members → slice_index members a ≢ slice_index members b
  pub recurring : (j : ℕ) → Contains members j ↔ Recurs net j
