-- Activity networks: activities with durations, arcs, and the lags beside them
-- (docs/definitions.md, "Networks").
use Rattle.std.specs.Prelude.{ℕ, Bool, cond, nat_eq, ◌&&◌, ◌-◌, ◌≤◌, ◌↔◌, List, [], ◌∷◌, length, replicate, drop, slice_index, Contains}
use Rattle.std.specs.List.Sorted.{IsStrictlyIncreasing}

-- an activity network: the durations of the activities 1 to n, its arcs in the order of the input,
-- and a lag for each arc
pub record Net : Type 0 where
  pub durations : List ℕ
  pub arcs : List (ℕ × ℕ)
  pub lags : List ℕ

-- the network of these durations and arcs, without any lag
abbrev pub unlagged : List ℕ → List (ℕ × ℕ) → Net
unlagged durations arcs = record { durations = durations; arcs = arcs; lags = replicate (length arcs) 0 }

-- the number of activities
abbrev pub count_of : Net → ℕ
count_of net = length net.durations

-- j is one of the activities 1 to n
abbrev pub IsActivity : Net → ℕ → Type 0
IsActivity net j = (1 ≤ j) × (j ≤ count_of net)

-- the duration of j
abbrev pub duration_of : Net → ℕ → ℕ
duration_of net j = slice_index net.durations (j - 1)

-- j starts no earlier than i finishes
abbrev pub IsArc : Net → ℕ → ℕ → Type 0
IsArc net i j = Contains net.arcs (i, j)

-- the arc is the one from i to j
abbrev pub joins : ℕ × ℕ → ℕ → ℕ → Bool
joins arc i j = nat_eq arc.0 i && nat_eq arc.1 j

-- the lag beside the first arc from i to j, 0 if there is none
abbrev pub lag_beside : List (ℕ × ℕ) → List ℕ → ℕ → ℕ → ℕ
lag_beside [] lags i j = 0
lag_beside (arc ∷ arcs) lags i j = cond (joins arc i j) (slice_index lags 0) (lag_beside arcs (drop 1 lags) i j)

-- the lag of the arc from i to j, 0 if there is no arc
unfoldable pub lag_of : Net → ℕ → ℕ → ℕ
lag_of net i j = lag_beside net.arcs net.lags i j

-- the lags, with w for the first arc from i to j
abbrev pub lags_with : List (ℕ × ℕ) → List ℕ → ℕ → ℕ → ℕ → List ℕ
lags_with arcs [] i j w = []
lags_with [] (lag ∷ lags) i j w = lag ∷ lags
lags_with (arc ∷ arcs) (lag ∷ lags) i j w = cond (joins arc i j) (w ∷ lags) (lag ∷ lags_with arcs lags i j w)

-- the network with w as the lag of the arc from i to j, unchanged otherwise
abbrev pub with_lag : Net → ℕ → ℕ → ℕ → Net
with_lag net i j w = record { durations = net.durations; arcs = net.arcs; lags = lags_with net.arcs net.lags i j w }

-- P holds of w, and of no greater number
abbrev pub IsGreatest : (ℕ → Type 0) → ℕ → Type 0
IsGreatest P w = P w × ((v : ℕ) → P v → v ≤ w)

-- P holds of w, and of no smaller number
abbrev pub IsLeast : (ℕ → Type 0) → ℕ → Type 0
IsLeast P w = P w × ((v : ℕ) → P v → w ≤ v)

-- the list contains exactly the numbers with P, in rising order
pub record ListsRising (P : ℕ → Type 0) (list : List ℕ) : Type 0 where
  pub rising : IsStrictlyIncreasing list
  pub exact : (i : ℕ) → Contains list i ↔ P i
