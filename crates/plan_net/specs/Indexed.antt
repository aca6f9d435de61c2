-- The tables beside the arcs of a network, and the network that the fields hold.
use Rattle.std.specs.Prelude.{ℕ, Option, Some, None, cond, nat_eq, ◌≡◌, ◌+◌, ◌-◌, ◌<◌, List, [], ◌∷◌, length, map, drop, slice_index, slice_get, Vec}
use Rattle.std.specs.declared.alloc.Global.{Global}
use Rattle.plan_net.specs.Network.{Net, count_of, IsArc, ListsRising}
use Rattle.plan_net.specs.Limits.{IsWithinLimits}
use Rattle.plan_net.specs.declared.arcs.Arcs.TheInside.{Inside}

-- the elements of a row, none if there is no row
abbrev pub row_items : {T : Type 0} → Option (Vec T Global) → List T
row_items None = []
row_items (Some row) = row.items

-- the row at index k
abbrev pub row_at : {T : Type 0} → List (Vec T Global) → ℕ → List T
row_at rows k = row_items (slice_get rows k)

-- the value at the index of the first i, 0 if there is none
abbrev pub beside : List ℕ → List ℕ → ℕ → ℕ
beside [] values i = 0
beside (j ∷ js) values i = cond (nat_eq j i) (slice_index values 0) (beside js (drop 1 values) i)

-- the lag of an arc, by the rows of the predecessors and of their lags
abbrev pub lag_in : List (Vec ℕ Global) → List (Vec ℕ Global) → ℕ × ℕ → ℕ
lag_in preds lags arc = beside (row_at preds (arc.1 - 1)) (row_at lags (arc.1 - 1)) arc.0

-- the network that the fields hold
abbrev pub net_of : Inside → Net
net_of a = record {
  durations = a.durations.items;
  arcs = a.arcs.items;
  lags = map (lag_in a.preds.items a.lags.items) a.arcs.items;
}

-- the network is within the limits, and the tables are those of its arcs
pub record IsIndexed (a : Inside) : Type 0 where
  pub limits : IsWithinLimits (net_of a)
  pub preds_count : length a.preds.items ≡ count_of (net_of a)
  pub preds : (k : ℕ) → k < count_of (net_of a) → ListsRising (λ i. IsArc (net_of a) i (k + 1)) (row_at a.preds.items k)
  pub succs_count : length a.succs.items ≡ count_of (net_of a)
  pub succs : (k : ℕ) → k < count_of (net_of a) → ListsRising (IsArc (net_of a) (k + 1)) (row_at a.succs.items k)
  pub lags_count : length a.lags.items ≡ count_of (net_of a)
  pub lags : (k : ℕ) → k < count_of (net_of a) → length (row_at a.lags.items k) ≡ length (row_at a.preds.items k)
