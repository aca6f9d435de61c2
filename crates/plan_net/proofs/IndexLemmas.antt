-- The tables beside the arcs: the arc and the lag at an index, and the tables after a change of one
-- lag.
use Rattle.std.proofs.Common.{ℕ, ◌≡◌, ◌≢◌, ◌+◌, ◌-◌, ◌≤◌, ◌<◌, ◌↔◌, ◌⊎◌, inl, inr, List, [], length, get_or, set, map, refl, sym, ◌∙◌, ap, subst, arith, Vec}
use Rattle.std.specs.declared.alloc.Global.{Global}
use Rattle.std.specs.List.{Contains, All}
use Rattle.std.specs.List.Sorted.{IsStrictlyIncreasing}
use Rattle.std.specs.Vec.{with_item}
use Rattle.std.proofs.lemmas.List.{length-set, length-map, length-replicate, get_or-map}
use Rattle.std.proofs.lemmas.List.Elements.{All-weaker, All-replicate}
use Rattle.std.proofs.lemmas.Bool.{cases_eq}
use Rattle.plan_net.specs.Network.{Net, count_of, IsActivity, IsArc, ListsRising, lag_of, lag_beside, lags_with, with_lag, unlagged}
use Rattle.plan_net.specs.Limits.{HasGoodSize, HasGoodDurations, HasGoodArcs, HasNewArcs, IsGoodArc, IsWithinLimits}
use Rattle.plan_net.specs.Indexed.{IsIndexed, net_of, row_at, beside, lag_in}
use Rattle.plan_net.specs.Marks.{AreNoLags}
use Rattle.plan_net.specs.Rows.{AreBeginnings, AreTurned}
use Rattle.plan_net.specs.declared.arcs.Arcs.TheInside.{Inside}
use Rattle.plan_net.specs.declared.limits.TheConstants.{LONGEST_LAG}
use Rattle.plan_net.proofs.RowLemmas.{arc_ends, row_at-read, within_limits}
use Rattle.plan_net.proofs.RisingLemmas.{stands_in, rising_later}
use Rattle.plan_net.proofs.OnceLemmas.{same_entries, rising_once}
use Rattle.plan_net.proofs.MarkLemmas.{row_at-set_same, row_at-set_other}
use Rattle.plan_net.specs.Successors.{AreRows, arcs_of_rows, rows_in}
use Rattle.plan_net.proofs.PushLemmas.{succs_turned, preds_turned}
use Rattle.plan_net.proofs.SuccessorLemmas.{IsWithinLimits-rows, AreBeginnings-rows}
use Rattle.plan_net.proofs.RisingLemmas.{ListsRising-same}
use Rattle.plan_net.proofs.LagLemmas.{lag_of-limit, lag_beside-map, beside-at, lags-none, lags-set, length-lags_with, All-lags_with}

-- the row and the index of an arc in the rows of predecessors
pub record IsPlaceOf (a : Inside) (i j row place : ℕ) : Type 0 where
  pub of_end : row + 1 ≡ j
  pub row_within : row < length a.preds.items
  pub within : place < length (row_at a.preds.items row)
  pub stands : get_or (row_at a.preds.items row) place 0 ≡ i

-- the result of a search in the rows of predecessors
pub placed_in : (a : Inside) (rows : List (Vec ℕ Global)) (i j row place : ℕ) → rows ≡ a.preds.items →
    (row + 1 ≡ j) × (row < length rows) × (place < length (row_at rows row))
    × (get_or (row_at rows row) place 0 ≡ i) → IsPlaceOf a i j row place
placed_in a rows i j row place same found =
    let here = subst (λ (rs : List (Vec ℕ Global)). (row + 1 ≡ j) × (row < length rs) × (place < length (row_at rs row)) × (get_or (row_at rs row) place 0 ≡ i)) same found in
    record { of_end = here.0; row_within = here.1; within = here.2; stands = here.3 }

-- the rows of the predecessors rise
pub rows_rise : (a : Inside) (rows : List (Vec ℕ Global)) → IsIndexed a → rows ≡ a.preds.items → (k : ℕ) → k < length rows → IsStrictlyIncreasing (row_at rows k)
rows_rise a rows ok same =
    subst (λ (rs : List (Vec ℕ Global)). (k : ℕ) → k < length rs → IsStrictlyIncreasing (row_at rs k)) (sym same)
    (λ k within. (ok.preds k (omega (arith, ok.preds_count, within))).rising)

-- each entry of a row is an arc
arc_placed : (a : Inside) (i j row place : ℕ) → IsIndexed a → IsPlaceOf a i j row place → IsArc (net_of a) i j
arc_placed a i j row place ok at =
    let inside : row < count_of (net_of a) = omega (arith, ok.preds_count, at.row_within) in
    let arc : IsArc (net_of a) i (row + 1) = ((ok.preds row inside).exact i).0 (stands_in (row_at a.preds.items row) i place at.within at.stands) in
    subst (λ (k : ℕ). IsArc (net_of a) i k) at.of_end arc

pub arc_at : (a : Inside) (net : Net) (i j row place : ℕ) → IsIndexed a → net_of a ≡ net → IsPlaceOf a i j row place → IsArc net i j
arc_at a net i j row place ok same at = subst (λ (n : Net). IsArc n i j) same (arc_placed a i j row place ok at)

-- a pair that is in no row isn't an arc
pub no_arc : (a : Inside) (net : Net) (i j : ℕ) → IsIndexed a → net_of a ≡ net → (1 ≤ j → j ≤ length a.preds.items → Contains (row_at a.preds.items (j - 1)) i → ⊥) → IsArc net i j → ⊥
no_arc a net i j ok same misses = subst (λ (n : Net). IsArc n i j → ⊥) same absent where
  absent : IsArc (net_of a) i j → ⊥
  absent arc =
      let ends = arc_ends (net_of a) i j ok.limits arc in
      let back : j ≡ j - 1 + 1 = omega (arith, ends.1) in
      let arc' : IsArc (net_of a) i (j - 1 + 1) = subst (λ (k : ℕ). IsArc (net_of a) i k) back arc in
      misses ends.1.0 (omega (arith, ok.preds_count, ends.1.1)) (((ok.preds (j - 1) (omega (arith, ends.1))).exact i).1 arc')

-- the lag at the index of an arc is the lag of the arc
pub lag_at : (a : Inside) (net : Net) (i j row place : ℕ) → IsIndexed a → net_of a ≡ net → IsPlaceOf a i j row place → get_or (row_at a.lags.items row) place 0 ≡ lag_of net i j
unfolding lag_of
lag_at a net i j row place ok same at = subst (λ (n : Net). get_or (row_at a.lags.items row) place 0 ≡ lag_of n i j) same here where
  here : get_or (row_at a.lags.items row) place 0 ≡ lag_beside a.arcs.items (map (lag_in a.preds.items a.lags.items) a.arcs.items) i j
  here =
      let inside : row < count_of (net_of a) = omega (arith, ok.preds_count, at.row_within) in
      let back : j - 1 ≡ row = omega (arith, at.of_end) in
      let first : (m : ℕ) → m < place → get_or (row_at a.preds.items row) m 0 ≢ i = λ m lower is.
      let up : get_or (row_at a.preds.items row) m 0 < get_or (row_at a.preds.items row) place 0 =
      rising_later (row_at a.preds.items row) (ok.preds row inside).rising m place lower at.within in
      absurd (omega (arith, up, is, at.stands)) in
      sym (lag_beside-map (lag_in a.preds.items a.lags.items) a.arcs.items i j (arc_placed a i j row place ok at)
      ∙ ap (λ (k : ℕ). beside (row_at a.preds.items k) (row_at a.lags.items k) i) back
      ∙ beside-at (row_at a.preds.items row) (row_at a.lags.items row) place i at.within at.stands first)

-- the row of lags of j contains the lags of the arcs to j
row_of_lags : (a : Inside) (net : Net) (row j : ℕ) → IsIndexed a → net_of a ≡ net → row + 1 ≡ j →
    row < length a.preds.items → row_at a.lags.items row ≡ map (λ i. lag_of net i j)
    (row_at a.preds.items row)
row_of_lags a net row j ok same of_end within =
    same_entries (row_at a.lags.items row) (map (λ i. lag_of net i j) (row_at a.preds.items row)) (long ∙ sym (length-map (row_at a.preds.items row) (λ i. lag_of net i j))) each where
      long : length (row_at a.lags.items row) ≡ length (row_at a.preds.items row)
      long = ok.lags row (omega (arith, ok.preds_count, within))

      each : (k : ℕ) → k < length (row_at a.lags.items row) → get_or (row_at a.lags.items row) k 0 ≡ get_or (map (λ i. lag_of net i j) (row_at a.preds.items row)) k 0
      each k lower =
          let inside : k < length (row_at a.preds.items row) = omega (arith, lower, long) in
          lag_at a net (get_or (row_at a.preds.items row) k 0) j row k ok same (record { of_end = of_end; row_within = within; within = inside; stands = refl })
          ∙ sym (get_or-map (λ i. lag_of net i j) (row_at a.preds.items row) k 0 0 inside)

-- the row of lags that an index reads contains them
lags_read : (a : Inside) (net : Net) (j : ℕ) (lags : Vec ℕ Global) → IsIndexed a → net_of a ≡ net →
    IsActivity net j → lags ≡ get_or a.lags.items (j - 1) lags →
    lags.items ≡ map (λ i. lag_of net i j) (row_at a.preds.items (j - 1))
lags_read a net j lags ok same activity is =
    let counted : count_of (net_of a) ≡ count_of net = ap count_of same in
    sym (row_at-read a.lags.items (j - 1) lags (omega (arith, ok.lags_count, counted, activity)) is)
    ∙ row_of_lags a net (j - 1) j ok same (omega (arith, activity)) (omega (arith, ok.preds_count, counted, activity))

-- they are the lags in the order of each rising list of the predecessors of j
pub lags_listed : (a : Inside) (net : Net) (j : ℕ) (lags : Vec ℕ Global) → IsIndexed a → net_of a ≡ net →
    IsActivity net j → lags ≡ get_or a.lags.items (j - 1) lags → (row : List ℕ) →
    ListsRising (λ i. IsArc net i j) row → lags.items ≡ map (λ i. lag_of net i j) row
lags_listed a net j lags ok same activity is row listed =
    lags_read a net j lags ok same activity is ∙ ap (map (λ i. lag_of net i j)) (rising_once (λ i. IsArc net i j) (row_at a.preds.items (j - 1)) row preds listed) where
      preds : ListsRising (λ i. IsArc net i j) (row_at a.preds.items (j - 1))
      preds =
          let back : j - 1 + 1 ≡ j = omega (arith, activity) in
          let counted : count_of (net_of a) ≡ count_of net = ap count_of same in
          subst (λ (n : Net). ListsRising (λ i. IsArc n i j) (row_at a.preds.items (j - 1))) same
          (subst (λ (k : ℕ). ListsRising (λ i. IsArc (net_of a) i k) (row_at a.preds.items (j - 1))) back (ok.preds (j - 1) (omega (arith, counted, activity))))

-- and none of them is above the limit
pub lags_limited : (a : Inside) (net : Net) (j : ℕ) (lags : Vec ℕ Global) → IsIndexed a → net_of a ≡ net →
    IsActivity net j → lags ≡ get_or a.lags.items (j - 1) lags → (k : ℕ) → k < length lags.items →
    get_or lags.items k 0 ≤ LONGEST_LAG
lags_limited a net j lags ok same activity is k within =
    let here : lags.items ≡ map (λ i. lag_of net i j) (row_at a.preds.items (j - 1)) = lags_read a net j lags ok same activity is in
    let long : length lags.items ≡ length (row_at a.preds.items (j - 1)) = ap length here ∙ length-map (row_at a.preds.items (j - 1)) (λ i. lag_of net i j) in
    let value : get_or lags.items k 0 ≡ lag_of net (get_or (row_at a.preds.items (j - 1)) k 0) j =
    ap (λ (values : List ℕ). get_or values k 0) here ∙ get_or-map (λ i. lag_of net i j) (row_at a.preds.items (j - 1)) k 0 0 (omega (arith, within, long)) in
    let limit : lag_of net (get_or (row_at a.preds.items (j - 1)) k 0) j ≤ LONGEST_LAG = lag_of-limit net (get_or (row_at a.preds.items (j - 1)) k 0) j (within_limits a net ok same).lags in
    omega (arith, value, limit)

-- there is a lag beside each arc
pub lag_within : (a : Inside) (i j row place : ℕ) → IsIndexed a → IsPlaceOf a i j row place → (row < length a.lags.items) × (place < length (row_at a.lags.items row))
lag_within a i j row place ok at =
    let inside : row < count_of (net_of a) = omega (arith, ok.preds_count, at.row_within) in
    (omega (arith, ok.lags_count, inside), omega (arith, ok.lags row inside, at.within))

-- the network after one lag is changed in the rows
pub net_of-set_lag : (a : Inside) (i j row place w : ℕ) (before : Vec ℕ Global) → IsIndexed a →
    IsPlaceOf a i j row place → before ≡ get_or a.lags.items row before →
    net_of (record a { lags = with_item a.lags row (with_item before place w) }) ≡ with_lag (net_of a) i j w
net_of-set_lag a i j row place w before ok at is =
    let inside : row < count_of (net_of a) = omega (arith, ok.preds_count, at.row_within) in
    let within = lag_within a i j row place ok at in
    let items : row_at a.lags.items row ≡ before.items = row_at-read a.lags.items row before within.0 is in
    let within' : place < length before.items = subst (λ (xs : List ℕ). place < length xs) items within.1 in
    let first : (m : ℕ) → m < place → get_or (row_at a.preds.items row) m 0 ≢ i = λ m lower same.
    let up : get_or (row_at a.preds.items row) m 0 < get_or (row_at a.preds.items row) place 0 =
    rising_later (row_at a.preds.items row) (ok.preds row inside).rising m place lower at.within in
    absurd (omega (arith, up, same, at.stands)) in
    let ends : All (λ arc. 1 ≤ arc.1) a.arcs.items = All-weaker (IsGoodArc (net_of a)) (λ arc. 1 ≤ arc.1) (λ arc good. good.1.0) a.arcs.items ok.limits.arcs in
    let changed : map (lag_in a.preds.items (set a.lags.items row (with_item before place w))) a.arcs.items ≡
    lags_with a.arcs.items (map (lag_in a.preds.items a.lags.items) a.arcs.items) i (row + 1) w =
    lags-set a.preds.items a.lags.items a.arcs.items row place i w before ok.limits.new_arcs ends within.0 is at.within within' at.stands first in
    let net : List ℕ → Net = λ lags. record { durations = a.durations.items; arcs = a.arcs.items; lags = lags } in
    ap net (changed ∙ ap (λ (k : ℕ). lags_with a.arcs.items (map (lag_in a.preds.items a.lags.items) a.arcs.items) i k w) at.of_end)

-- the limits hold with another good lag
pub IsWithinLimits-with_lag : (net : Net) (i j w : ℕ) → w ≤ LONGEST_LAG → IsWithinLimits net → IsWithinLimits (with_lag net i j w)
IsWithinLimits-with_lag net i j w good limits = record {
  size = limits.size;
  durations = limits.durations;
  arcs = limits.arcs;
  new_arcs = limits.new_arcs;
  lags = (length-lags_with net.arcs net.lags i j w ∙ limits.lags.0, All-lags_with (λ v. v ≤ LONGEST_LAG) net.arcs net.lags i j w good limits.lags.1);
}

-- a change of one lag keeps the rows in step
pub IsIndexed-set_lag : (a : Inside) (i j row place w : ℕ) (before : Vec ℕ Global) → w ≤ LONGEST_LAG →
    IsIndexed a → IsPlaceOf a i j row place → before ≡ get_or a.lags.items row before →
    IsIndexed (record a { lags = with_item a.lags row (with_item before place w) })
IsIndexed-set_lag a i j row place w before good ok at is = record {
  limits = subst IsWithinLimits (sym (net_of-set_lag a i j row place w before ok at is)) (IsWithinLimits-with_lag (net_of a) i j w good ok.limits);
  preds_count = ok.preds_count;
  preds = ok.preds;
  succs_count = ok.succs_count;
  succs = ok.succs;
  lags_count = length-set a.lags.items row (with_item before place w) ∙ ok.lags_count;
  lags = λ k within. wide k within (cases_eq k row);
} where
  wide : (k : ℕ) → k < count_of (net_of a) → (k ≡ row) ⊎ (k ≡ row → ⊥) → length (row_at (set a.lags.items row (with_item before place w)) k) ≡ length (row_at a.preds.items k)
  wide k within (inl same) =
      let inside = lag_within a i j row place ok at in
      subst (λ (r : ℕ). length (row_at (set a.lags.items row (with_item before place w)) r) ≡ length (row_at a.preds.items r)) (sym same)
      (ap length (row_at-set_same a.lags.items row (with_item before place w) inside.0)
      ∙ length-set before.items place w
      ∙ ap length (sym (row_at-read a.lags.items row before inside.0 is))
      ∙ ok.lags row (subst (λ (r : ℕ). r < count_of (net_of a)) same within))
  wide k within (inr other) = ap length (row_at-set_other a.lags.items k row (with_item before place w) other) ∙ ok.lags k within

-- rows made without lags hold the network without lags
pub net_of-unlagged : (a : Inside) → AreNoLags a.preds.items a.lags.items → net_of a ≡ unlagged a.durations.items a.arcs.items
net_of-unlagged a none =
    let net : List ℕ → Net = λ lags. record { durations = a.durations.items; arcs = a.arcs.items; lags = lags } in
    ap net (lags-none a.preds.items a.lags.items a.arcs.items none)

-- rows that list the predecessors and the successors are in step with the arcs
IsIndexed-listed : (a : Inside) → IsWithinLimits (unlagged a.durations.items a.arcs.items) →
    length a.preds.items ≡ count_of (net_of a) → ((k : ℕ) →
    ListsRising (λ i. IsArc (net_of a) i (k + 1)) (row_at a.preds.items k)) →
    length a.succs.items ≡ count_of (net_of a) → ((k : ℕ) →
    ListsRising (IsArc (net_of a) (k + 1)) (row_at a.succs.items k)) → AreNoLags a.preds.items a.lags.items →
    IsIndexed a
IsIndexed-listed a limits preds_count preds succs_count succs none = record {
  limits = subst IsWithinLimits (sym (net_of-unlagged a none)) limits;
  preds_count = preds_count;
  preds = λ k within. preds k;
  succs_count = succs_count;
  succs = λ k within. succs k;
  lags_count = none.whole ∙ preds_count;
  lags = λ k within. ap length (none.each k (omega (arith, none.whole, preds_count, within))) ∙ length-replicate (length (row_at a.preds.items k)) 0;
}

-- the network of good durations, and of new arcs between activities, is within the limits
IsWithinLimits-unlagged : (durations : List ℕ) (arcs : List (ℕ × ℕ)) → HasGoodSize (unlagged durations arcs) →
    HasGoodDurations (unlagged durations arcs) → HasGoodArcs (unlagged durations arcs) →
    HasNewArcs (unlagged durations arcs) → IsWithinLimits (unlagged durations arcs)
IsWithinLimits-unlagged durations arcs size good inside new_arcs = record {
  size = size;
  durations = good;
  arcs = inside;
  new_arcs = new_arcs;
  lags = (length-replicate (length arcs) 0, All-replicate (λ w. w ≤ LONGEST_LAG) (length arcs) 0 (omega arith));
}

-- rows of the first activities of arcs, transposed once and twice, are in step with the arcs
pub IsIndexed-made : (a : Inside) (rows : List (Vec ℕ Global)) →
    HasGoodSize (unlagged a.durations.items a.arcs.items) →
    HasGoodDurations (unlagged a.durations.items a.arcs.items) →
    HasGoodArcs (unlagged a.durations.items a.arcs.items) →
    HasNewArcs (unlagged a.durations.items a.arcs.items) →
    AreBeginnings (length a.durations.items) a.arcs.items rows → AreTurned rows (length rows) a.succs.items →
    AreTurned a.succs.items (length a.succs.items) a.preds.items → AreNoLags a.preds.items a.lags.items →
    IsIndexed a
IsIndexed-made a rows size durations arcs new_arcs beginnings succs preds none =
    IsIndexed-listed a (IsWithinLimits-unlagged a.durations.items a.arcs.items size durations arcs new_arcs)
    (preds.whole ∙ whole) (preds_turned (net_of a) a.succs.items a.preds.items arcs whole listed preds)
    whole listed none where
      whole : length a.succs.items ≡ count_of (net_of a)
      whole = succs.whole ∙ beginnings.whole

      listed : (k : ℕ) → ListsRising (IsArc (net_of a) (k + 1)) (row_at a.succs.items k)
      listed = succs_turned (net_of a) rows a.succs.items arcs beginnings succs

-- rows of successors, transposed once and twice, are in step with their arcs
pub IsIndexed-rows : (a : Inside) (lists : List (Vec ℕ Global)) →
    HasGoodSize (unlagged a.durations.items []) → HasGoodDurations (unlagged a.durations.items []) →
    AreRows (length a.durations.items) (rows_in lists) → a.arcs.items ≡ arcs_of_rows 1 (rows_in lists)
    → AreTurned lists (length lists) a.preds.items → AreTurned a.preds.items (length a.preds.items) a.succs.items → AreNoLags a.preds.items a.lags.items → IsIndexed a
IsIndexed-rows a lists size durations are same preds succs none =
    IsIndexed-listed a limits beginnings.whole listed (succs.whole ∙ beginnings.whole) (succs_turned (net_of a) a.preds.items a.succs.items limits.arcs beginnings succs) none where
      limits : IsWithinLimits (unlagged a.durations.items a.arcs.items)
      limits = subst (λ (arcs : List (ℕ × ℕ)). IsWithinLimits (unlagged a.durations.items arcs)) (sym same) (IsWithinLimits-rows a.durations.items (rows_in lists) size durations are)

      beginnings : AreBeginnings (length a.durations.items) a.arcs.items a.preds.items
      beginnings = subst (λ (arcs : List (ℕ × ℕ)). AreBeginnings (length a.durations.items) arcs a.preds.items) (sym same) (AreBeginnings-rows (length a.durations.items) lists a.preds.items are preds)

      listed : (k : ℕ) → ListsRising (λ i. IsArc (net_of a) i (k + 1)) (row_at a.preds.items k)
      listed k = ListsRising-same (λ i. (1 ≤ i) × (i ≤ length lists)
          × Contains (row_at lists (i - 1)) (k + 1)) (λ i. IsArc (net_of a) i (k + 1))
          (row_at a.preds.items k) (same_arcs k) (preds.each k) where
            same_arcs : (k : ℕ) (i : ℕ) → ((1 ≤ i) × (i ≤ length lists) × Contains (row_at lists (i - 1)) (k + 1)) ↔ IsArc (net_of a) i (k + 1)
            same_arcs k i = (λ here. (beginnings.each k i).0 (((preds.each k).exact i).1 here), λ arc. ((preds.each k).exact i).0 ((beginnings.each k i).1 arc))
