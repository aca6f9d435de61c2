-- Paths through a network, their lengths, and cycles (docs/definitions.md, "Networks").
use Rattle.std.specs.Prelude.{ℕ, ◌≡◌, ◌+◌, ◌≤◌, List, [], ◌∷◌, length}
use Rattle.plan_net.specs.Network.{Net, IsActivity, IsArc, duration_of, lag_of}

-- from i, the arcs lead through the activities of `others` in order
abbrev pub IsWalk : Net → ℕ → List ℕ → Type 0
IsWalk net i [] = Unit {0}
IsWalk net i (j ∷ others) = IsArc net i j × IsWalk net j others

-- a path: its first activity and the others; each two neighbours are an arc
abbrev pub IsPath : Net → ℕ → List ℕ → Type 0
IsPath net i others = IsActivity net i × IsWalk net i others

-- the last activity of a path
abbrev pub last_of : ℕ → List ℕ → ℕ
last_of i [] = i
last_of i (j ∷ others) = last_of j others

-- the time from the end of the first activity to the end of the path
abbrev pub length_after : Net → ℕ → List ℕ → ℕ
length_after net i [] = 0
length_after net i (j ∷ others) = lag_of net i j + duration_of net j + length_after net j others

-- the length of a path: the durations of its members, and the lags of its arcs
abbrev pub path_length : Net → ℕ → List ℕ → ℕ
path_length net i others = duration_of net i + length_after net i others

-- a path of two or more entries whose first and last are equal
abbrev pub IsCycle : Net → ℕ → List ℕ → Type 0
IsCycle net i others = IsPath net i others × (1 ≤ length others) × (last_of i others ≡ i)

-- no path comes back to its first activity
abbrev pub IsAcyclic : Net → Type 0
IsAcyclic net = (i : ℕ) (others : List ℕ) → IsCycle net i others → ⊥
