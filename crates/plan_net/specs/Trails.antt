-- The walk from predecessor to predecessor that finds the named cycle.
use Rattle.std.specs.Prelude.{ℕ, Bool, ◌≢◌, ◌↔◌, ◌+◌, ◌-◌, ◌≤◌, ◌<◌, List, length, slice_index, Contains}
use Rattle.plan_net.specs.Network.{Net, IsActivity}
use Rattle.plan_net.specs.Cycle.{IsCaught, IsLeastCaughtBefore, Comes, Recurs}
use Rattle.plan_net.specs.Placed.{IsOpen}

-- the open activities are the caught ones
abbrev pub IsCaughtOpen : Net → List Bool → Type 0
IsCaughtOpen net placed = (j : ℕ) → IsCaught net j ↔ (IsActivity net j × IsOpen placed j)

-- a walk without a repeated activity, and `at`, the activity after its last
pub record IsTrail (net : Net) (trail : List ℕ) (at : ℕ) : Type 0 where
  pub once : (a b : ℕ) → a < b → b < length trail → slice_index trail a ≢ slice_index trail b
  pub steps : (k : ℕ) → k < length trail → Comes net k (slice_index trail k)
  pub next : Comes net (length trail) at

-- a cycle against the arcs
pub record IsBackRing (net : Net) (ring : List ℕ) : Type 0 where
  pub some : 1 ≤ length ring
  pub along : (k : ℕ) → k + 1 < length ring → IsLeastCaughtBefore net (slice_index ring k) (slice_index ring (k + 1))
  pub around : IsLeastCaughtBefore net (slice_index ring (length ring - 1)) (slice_index ring 0)
  pub once : (a b : ℕ) → a < b → b < length ring → slice_index ring a ≢ slice_index ring b
  pub recurring : (j : ℕ) → Contains ring j ↔ Recurs net j
