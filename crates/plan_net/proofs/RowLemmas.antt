-- The rows of a network's tables, as code reads them.
use Rattle.std.proofs.Common.{ℕ, ◌≡◌, ◌+◌, ◌-◌, ◌≤◌, ◌<◌, List, length, get_or, refl, ap, subst, arith, Vec}
use Rattle.std.specs.declared.alloc.Global.{Global}
use Rattle.std.proofs.lemmas.Option.{slice_get_read}
use Rattle.std.proofs.lemmas.List.Elements.{Contains-get_or, All-contains}
use Rattle.plan_net.specs.Network.{Net, count_of, IsActivity, IsArc, ListsRising}
use Rattle.plan_net.specs.Limits.{IsWithinLimits, IsGoodArc}
use Rattle.plan_net.specs.Indexed.{IsIndexed, net_of, row_at, row_items}
use Rattle.plan_net.specs.declared.arcs.Arcs.TheInside.{Inside}

-- the row that an index reads
pub row_at-read : {T : Type 0} (rows : List (Vec T Global)) (k : ℕ) (row : Vec T Global) → k < length rows → row ≡ get_or rows k row → row_at rows k ≡ row.items
row_at-read rows k row within is = ap row_items (slice_get_read rows (length rows) k row refl within is)

-- each entry of a rising list of the numbers with P has the consequences of P
pub entries_have : (P Q : ℕ → Type 0) (list : List ℕ) → ListsRising P list → ((i : ℕ) → P i → Q i) → (k : ℕ) → k < length list → Q (get_or list k 0)
entries_have P Q list listed gives k within =
    gives (get_or list k 0) ((listed.exact (get_or list k 0)).0 (Contains-get_or list k 0 within))

-- both ends of an arc are activities
pub arc_ends : (net : Net) (i j : ℕ) → IsWithinLimits net → IsArc net i j → IsGoodArc net (i, j)
arc_ends net i j ok arc = All-contains (IsGoodArc net) net.arcs (i, j) ok.arcs arc

-- the row at j - 1, if the row at k lists the numbers with P (k + 1)
shifted : (count : ℕ) (P : ℕ → ℕ → Type 0) (rows : List (Vec ℕ Global)) → length rows ≡ count →
    ((k : ℕ) → k < count → ListsRising (P (k + 1)) (row_at rows k)) → (j : ℕ) (row : Vec ℕ Global) → 1 ≤ j →
    j ≤ count → row ≡ get_or rows (j - 1) row → ListsRising (P j) row.items
shifted count P rows whole lists j row low high is =
    let within : j - 1 < count = omega arith in
    let inside : j - 1 < length rows = omega arith in
    let here : row_at rows (j - 1) ≡ row.items = row_at-read rows (j - 1) row inside is in
    let same : j - 1 + 1 ≡ j = omega arith in
    let listed : ListsRising (P (j - 1 + 1)) (row_at rows (j - 1)) = lists (j - 1) within in
    subst (λ (k : ℕ). ListsRising (P k) row.items) same (subst (λ (xs : List ℕ). ListsRising (P (j - 1 + 1)) xs) here listed)

-- the row of the predecessors of j
pub preds_listed : (a : Inside) (net : Net) (j : ℕ) (row : Vec ℕ Global) → IsIndexed a → net_of a ≡ net →
    IsActivity net j → row ≡ get_or a.preds.items (j - 1) row → ListsRising (λ i. IsArc net i j) row.items
preds_listed a net j row ok same activity is =
    let P : Net → Type 0 = λ n. IsActivity n j → ListsRising (λ i. IsArc n i j) row.items in
    subst P same (λ here. shifted (count_of (net_of a)) (λ k i. IsArc (net_of a) i k) a.preds.items ok.preds_count ok.preds j row here.0 here.1 is) activity

-- the row of the successors of j
pub succs_listed : (a : Inside) (net : Net) (j : ℕ) (row : Vec ℕ Global) → IsIndexed a → net_of a ≡ net →
    IsActivity net j → row ≡ get_or a.succs.items (j - 1) row → ListsRising (IsArc net j) row.items
succs_listed a net j row ok same activity is =
    let P : Net → Type 0 = λ n. IsActivity n j → ListsRising (IsArc n j) row.items in
    subst P same (λ here. shifted (count_of (net_of a)) (λ k i. IsArc (net_of a) k i) a.succs.items ok.succs_count ok.succs j row here.0 here.1 is) activity

-- the network that the fields hold is within the limits
pub within_limits : (a : Inside) (net : Net) → IsIndexed a → net_of a ≡ net → IsWithinLimits net
within_limits a net ok same = subst (λ (n : Net). IsWithinLimits n) same ok.limits
