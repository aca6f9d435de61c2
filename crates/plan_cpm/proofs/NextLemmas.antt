-- Starts of successors, taken into account one after another.
use Rattle.std.proofs.Common.{ℕ, ◌≡◌, ◌+◌, ◌-◌, ◌≤◌, ◌<◌, ◌⊎◌, inl, inr, List, length, get_or, sym, ◌∙◌, subst, arith}
use Rattle.std.proofs.lemmas.Bool.{cases_lt}
use Rattle.plan_net.specs.Network.{Net, count_of, IsArc, IsActivity, ListsRising, lag_of, duration_of}
use Rattle.plan_net.specs.Limits.{IsWithinLimits}
use Rattle.plan_net.proofs.RowLemmas.{arc_ends}
use Rattle.plan_cpm.specs.Lengths.{AreFinishes}
use Rattle.plan_cpm.specs.Dates.{AreNextStarts, LowersBefore}
use Rattle.plan_net.proofs.RisingLemmas.{each_of_rising}
use Rattle.plan_cpm.proofs.MoveLemmas.{AreMoved}
use Rattle.plan_cpm.proofs.JoinLemmas.{after_finish}

-- for each activity the least start of a successor up to n less its lag, or the whole duration
pub record AreNextStartsOf (net : Net) (finishes : List ℕ) (duration n : ℕ) (list : List ℕ) : Type 0 where
  pub whole : length list ≡ count_of net
  pub below : (j k : ℕ) → IsArc net j k → k ≤ n → get_or list (j - 1) 0 + lag_of net j k + duration_of net k ≤ get_or finishes (k - 1) 0
  pub within : (x : ℕ) → get_or list x 0 ≤ duration
  pub reached : (j : ℕ) → IsActivity net j
      → (get_or list (j - 1) 0 ≡ duration) ⊎ ((k : ℕ) × IsArc net j k × (get_or list (j - 1) 0 + lag_of net j k + duration_of net k ≡ get_or finishes (k - 1) 0))

-- a start leaves room for the lags of the arcs to it
pub lag_at_most_start : (net : Net) (finishes : List ℕ) (j k start : ℕ) → IsWithinLimits net → AreFinishes net finishes
    → start + duration_of net k ≡ get_or finishes (k - 1) 0 → IsArc net j k → lag_of net j k ≤ start
lag_at_most_start net finishes j k start limits are is arc =
    let ends = arc_ends net j k limits arc in
    let after = after_finish net j k (get_or finishes (j - 1) 0) (get_or finishes (k - 1) 0) arc (are.greatest j ends.0) (are.greatest k ends.1) in
    omega (arith, is, after)

-- after all predecessors, the entry of each was lowered
pub LowersBefore-from_moved : (net : Net) (k start : ℕ) (items before after : List ℕ) → ListsRising (λ j. IsArc net j k) items
    → ((j : ℕ) → IsArc net j k → lag_of net j k ≤ start)
    → AreMoved (λ a b. b ≤ a) (λ j. IsArc net j k) (λ j. start - lag_of net j k) items (length items) before after → LowersBefore net k start before after
LowersBefore-from_moved net k start items before after listed room moved = record {
  whole = moved.whole;
  kept = moved.kept;
  lowered = λ j arc. omega (arith, room j arc, each_of_rising (λ i. IsArc net i k) (λ i. get_or after (i - 1) 0 ≤ start - lag_of net i k) items listed moved.moved j arc);
  reached = λ x. reached x (moved.reached x);
} where
  reached : (x : ℕ) → (get_or after x 0 ≡ get_or before x 0) ⊎ ((j : ℕ) × IsArc net j k × (x ≡ j - 1) × (get_or after x 0 ≡ start - lag_of net j k))
      → (get_or after x 0 ≡ get_or before x 0) ⊎ ((j : ℕ) × IsArc net j k × (x ≡ j - 1) × (get_or after x 0 + lag_of net j k ≡ start))
  reached x (inl same) = inl same
  reached x (inr (j, arc, place, value)) = inr (j, arc, place, omega (arith, value, room j arc))

-- one more successor is taken into account
pub AreNextStartsOf-more : (net : Net) (finishes list after : List ℕ) (duration n start : ℕ) → IsWithinLimits net
    → start + duration_of net (n + 1) ≡ get_or finishes n 0 → LowersBefore net (n + 1) start list after → AreNextStartsOf net finishes duration n list
    → AreNextStartsOf net finishes duration (n + 1) after
AreNextStartsOf-more net finishes list after duration n start limits is lowers so_far = record {
  whole = lowers.whole ∙ so_far.whole;
  below = λ j k arc low. below j k arc low (cases_lt n k);
  within = λ x. omega (arith, lowers.kept x, so_far.within x);
  reached = λ j activity. reached j activity (lowers.reached (j - 1));
} where
  here : start + duration_of net (n + 1) ≡ get_or finishes (n + 1 - 1) 0
  here = let same : n ≡ n + 1 - 1 = omega arith in subst (λ (x : ℕ). start + duration_of net (n + 1) ≡ get_or finishes x 0) same is

  below : (j k : ℕ) → IsArc net j k → k ≤ n + 1 → (n < k) ⊎ (k ≤ n) → get_or after (j - 1) 0 + lag_of net j k + duration_of net k ≤ get_or finishes (k - 1) 0
  below j k arc low (inr before) = omega (arith, so_far.below j k arc before, lowers.kept (j - 1))
  below j k arc low (inl above) =
      let same : k ≡ n + 1 = omega arith in
      subst (λ (h : ℕ). get_or after (j - 1) 0 + lag_of net j h + duration_of net h ≤ get_or finishes (h - 1) 0) (sym same)
      (omega (arith, lowers.lowered j (subst (IsArc net j) same arc), here))

  reached : (j : ℕ) → IsActivity net j
      → (get_or after (j - 1) 0 ≡ get_or list (j - 1) 0) ⊎ ((i : ℕ) × IsArc net i (n + 1) × (j - 1 ≡ i - 1) × (get_or after (j - 1) 0 + lag_of net i (n + 1) ≡ start))
      → (get_or after (j - 1) 0 ≡ duration) ⊎ ((k : ℕ) × IsArc net j k × (get_or after (j - 1) 0 + lag_of net j k + duration_of net k ≡ get_or finishes (k - 1) 0))
  reached j activity (inl same) =
      subst (λ (v : ℕ). (v ≡ duration) ⊎ ((k : ℕ) × IsArc net j k × (v + lag_of net j k + duration_of net k ≡ get_or finishes (k - 1) 0))) (sym same) (so_far.reached j activity)
  reached j activity (inr (i, arc, place, value)) =
      let same : i ≡ j = omega (arith, place, activity, (arc_ends net i (n + 1) limits arc).0) in
      let whole : get_or after (j - 1) 0 + lag_of net i (n + 1) + duration_of net (n + 1) ≡ get_or finishes (n + 1 - 1) 0 = omega (arith, value, here) in
      inr (
        n + 1,
        subst (λ (h : ℕ). IsArc net h (n + 1)) same arc,
        subst
            (λ (h : ℕ). get_or after (j - 1) 0 + lag_of net h (n + 1) + duration_of net
            (n + 1) ≡ get_or finishes (n + 1 - 1) 0) same whole,
      )

-- after all successors were taken into account
pub AreNextStarts-whole : (net : Net) (finishes list : List ℕ) (duration : ℕ) → IsWithinLimits net
    → AreNextStartsOf net finishes duration (count_of net) list → AreNextStarts net finishes duration list
AreNextStarts-whole net finishes list duration limits are = record {
  whole = are.whole;
  next = λ j activity. record { below = λ k arc. are.below j k arc (arc_ends net j k limits arc).1.1; within = are.within (j - 1); reached = are.reached j activity };
}
