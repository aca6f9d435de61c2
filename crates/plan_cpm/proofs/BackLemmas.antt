-- The backward pass: the entry of each activity is raised as soon as the tail of a successor is
-- known.
use Rattle.std.proofs.Common.{ℕ, ◌≡◌, ◌≢◌, ◌+◌, ◌-◌, ◌≤◌, ◌<◌, ◌⊎◌, inl, inr, List, length, get_or, set, refl, sym, ◌∙◌, subst, arith, get_or-set_same}
use Rattle.std.proofs.lemmas.Bool.{cases_eq}
use Rattle.plan_net.specs.Network.{Net, count_of, IsArc, IsActivity, IsGreatest, lag_of, duration_of}
use Rattle.plan_net.specs.Order.{IsLeastOrder}
use Rattle.plan_net.specs.Limits.{IsWithinLimits, HasGoodLags}
use Rattle.plan_net.proofs.LagLemmas.{lag_of-limit}
use Rattle.plan_net.proofs.RowLemmas.{arc_ends}
use Rattle.plan_net.proofs.CaughtLemmas.{earlier, once_in}
use Rattle.plan_cpm.specs.Lengths.{IsLengthFrom, RaisesBefore}
use Rattle.plan_cpm.proofs.StepLemmas.{tail_step}
use Rattle.plan_cpm.proofs.PassLemmas.{RightBetween, set_apart, succs_done, succs_right}

-- the entry of the activity at p is 0, or the lag plus the entry of one of its successors at an
-- index from
-- `low` on
abbrev pub IsReachedFrom : Net → List ℕ → List ℕ → ℕ → ℕ → Type 0
IsReachedFrom net order list low p =
    (get_or list (get_or order p 0 - 1) 0 ≡ 0)
    ⊎ ((q : ℕ) × (low ≤ q) × (q < length order) × IsArc net (get_or order p 0) (get_or order q 0)
    × (get_or list (get_or order p 0 - 1) 0 ≡ lag_of net (get_or order p 0) (get_or order q 0) + get_or list (get_or order q 0 - 1) 0))

-- from index `left` of the order on, the entries are tails; before it they are the greatest times
-- after the activities, by these tails
pub record AreRests (net : Net) (order list : List ℕ) (left : ℕ) : Type 0 where
  pub done : RightBetween (λ j. IsGreatest (IsLengthFrom net j)) order list left (length order)
  pub above : (p q : ℕ) → p < left → left ≤ q → q < length order → IsArc net (get_or order p 0) (get_or order q 0)
      → lag_of net (get_or order p 0) (get_or order q 0) + get_or list (get_or order q 0 - 1) 0 ≤ get_or list (get_or order p 0 - 1) 0
  pub reached : (p : ℕ) → p < left → IsReachedFrom net order list left p

-- the tail of the activity at m, from the time after it
tail_at : (net : Net) (order list : List ℕ) (m tail : ℕ) → IsWithinLimits net → IsLeastOrder net order → IsActivity net (get_or order m 0)
    → m < length order → AreRests net order list (m + 1) → tail ≡ duration_of net (get_or order m 0) + get_or list (get_or order m 0 - 1) 0
    → IsGreatest (IsLengthFrom net (get_or order m 0)) tail
tail_at net order list m tail limits least activity inside rests is =
    subst (IsGreatest (IsLengthFrom net (get_or order m 0))) (sym is)
    (tail_step net (get_or order m 0) (λ k. get_or list (k - 1) 0) (get_or list (get_or order m 0 - 1) 0) activity
    (succs_right (λ j. IsGreatest (IsLengthFrom net j)) net order list m limits least inside rests.done) above
    (reached (rests.reached m (omega arith))) (λ k arc. (arc_ends net (get_or order m 0) k limits arc).1))
  where
    above : (k : ℕ) → IsArc net (get_or order m 0) k → lag_of net (get_or order m 0) k + get_or list (k - 1) 0 ≤ get_or list (get_or order m 0 - 1) 0
    above k arc =
        succs_done (λ h. IsArc net (get_or order m 0) h → lag_of net (get_or order m 0) h + get_or list (h - 1) 0 ≤ get_or list (get_or order m 0 - 1) 0) net order m limits least inside
        (λ p lower within arc'. rests.above m p (omega arith) lower within arc') k arc arc

    reached : IsReachedFrom net order list (m + 1) m
        → (get_or list (get_or order m 0 - 1) 0 ≡ 0) ⊎ ((k : ℕ) × IsArc net (get_or order m 0) k × (get_or list (get_or order m 0 - 1) 0 ≡ lag_of net (get_or order m 0) k + get_or list (k - 1) 0))
    reached (inl none) = inl none
    reached (inr (q, past, within, arc, value)) = inr (get_or order q 0, arc, value)

-- a predecessor of the activity at m has an index below m
not_before : (net : Net) (order : List ℕ) → IsLeastOrder net order → (m q : ℕ) → m < length order → m ≤ q → q < length order
    → IsArc net (get_or order q 0) (get_or order m 0) → ⊥
not_before net order least m q inside past within arc =
    let place = earlier net order least.least (get_or order q 0) (get_or order m 0) m arc inside refl in
    once_in net order least.least q place.0 (omega (arith, place.1, past)) within place.2

-- one step of the pass: the tail at m is set, and the entries of its predecessors are raised
pub AreRests-step : (net : Net) (order list after : List ℕ) (m tail : ℕ) → IsWithinLimits net → IsLeastOrder net order
    → ((k : ℕ) → k < length order → IsActivity net (get_or order k 0)) → length list ≡ count_of net → m < length order
    → AreRests net order list (m + 1)
    → tail ≡ duration_of net (get_or order m 0) + get_or list (get_or order m 0 - 1) 0 →
    RaisesBefore net (get_or order m 0) tail (set list (get_or order m 0 - 1) tail) after →
    AreRests net order after m
AreRests-step net order list after m tail limits least activities whole inside rests is raises = record {
  done = record { right = λ k lower upper within. right k lower within (cases_eq k m) };
  above = λ p q lower past within arc. above p q lower past within arc (cases_eq q m);
  reached = λ p lower. reached p lower (raises.reached (get_or order p 0 - 1));
} where
  -- the tail that was set
  here : get_or (set list (get_or order m 0 - 1) tail) (get_or order m 0 - 1) 0 ≡ tail
  here = get_or-set_same list (get_or order m 0 - 1) tail 0 (omega (arith, activities m inside, whole))

  -- the entries that setting the tail didn't change
  apart : (p : ℕ) → p < length order → p ≢ m → get_or (set list (get_or order m 0 - 1) tail) (get_or order p 0 - 1) 0 ≡ get_or list (get_or order p 0 - 1) 0
  apart p within other = set_apart net order list least activities p m tail within inside other

  -- nothing from m on is raised
  unraised : (q : ℕ) → m ≤ q → q < length order → get_or after (get_or order q 0 - 1) 0 ≡ get_or (set list (get_or order m 0 - 1) tail) (get_or order q 0 - 1) 0
  unraised q past within = by_case (raises.reached (get_or order q 0 - 1)) where
    by_case : (get_or after (get_or order q 0 - 1) 0 ≡ get_or (set list (get_or order m 0 - 1) tail) (get_or order q 0 - 1) 0)
        ⊎ ((i : ℕ) × IsArc net i (get_or order m 0) × (get_or order q 0 - 1 ≡ i - 1) × (get_or after (get_or order q 0 - 1) 0 ≡ lag_of net i (get_or order m 0) + tail))
        → get_or after (get_or order q 0 - 1) 0 ≡ get_or (set list (get_or order m 0 - 1) tail) (get_or order q 0 - 1) 0
    by_case (inl same) = same
    by_case (inr (i, arc, place, value)) =
        let same : i ≡ get_or order q 0 = omega (arith, place, (arc_ends net i (get_or order m 0) limits arc).0, activities q within) in
        absurd (not_before net order least m q inside past within (subst (λ (h : ℕ). IsArc net h (get_or order m 0)) same arc))

  at_m : get_or after (get_or order m 0 - 1) 0 ≡ tail
  at_m = unraised m (omega arith) inside ∙ here

  behind : (q : ℕ) → m ≤ q → q < length order → q ≢ m → get_or after (get_or order q 0 - 1) 0 ≡ get_or list (get_or order q 0 - 1) 0
  behind q past within other = unraised q past within ∙ apart q within other

  right : (q : ℕ) → m ≤ q → q < length order → (q ≡ m) ⊎ (q ≡ m → ⊥) → IsGreatest (IsLengthFrom net (get_or order q 0)) (get_or after (get_or order q 0 - 1) 0)
  right q past within (inl same) =
      subst (λ (p : ℕ). IsGreatest (IsLengthFrom net (get_or order p 0)) (get_or after (get_or order p 0 - 1) 0)) (sym same)
      (subst (IsGreatest (IsLengthFrom net (get_or order m 0))) (sym at_m) (tail_at net order list m tail limits least (activities m inside) inside rests is))
  right q past within (inr other) = subst (IsGreatest (IsLengthFrom net (get_or order q 0))) (sym (behind q past within other)) (rests.done.right q (omega (arith, past, other)) within within)

  above : (p q : ℕ) → p < m → m ≤ q → q < length order → IsArc net (get_or order p 0) (get_or order q 0) → (q ≡ m) ⊎ (q ≡ m → ⊥)
      → lag_of net (get_or order p 0) (get_or order q 0) + get_or after (get_or order q 0 - 1) 0 ≤ get_or after (get_or order p 0 - 1) 0
  above p q lower past within arc (inl same) =
      subst (λ (x : ℕ). lag_of net (get_or order p 0) (get_or order x 0) + get_or after (get_or order x 0 - 1) 0 ≤ get_or after (get_or order p 0 - 1) 0) (sym same)
      (let raised = raises.raised (get_or order p 0) (subst (λ (x : ℕ). IsArc net (get_or order p 0) (get_or order x 0)) same arc) in omega (arith, raised, at_m))
  above p q lower past within arc (inr other) =
      let before = rests.above p q (omega (arith, lower)) (omega (arith, past, other)) within arc in
      omega (arith, before, behind q past within other, raises.kept (get_or order p 0 - 1), apart p (omega (arith, lower, inside)) (λ same. absurd (omega (arith, same, lower))))

  reached : (p : ℕ) → p < m → (get_or after (get_or order p 0 - 1) 0 ≡ get_or (set list (get_or order m 0 - 1) tail) (get_or order p 0 - 1) 0)
      ⊎ ((i : ℕ) × IsArc net i (get_or order m 0) × (get_or order p 0 - 1 ≡ i - 1) × (get_or after (get_or order p 0 - 1) 0 ≡ lag_of net i (get_or order m 0) + tail))
      → IsReachedFrom net order after m p
  reached p lower (inr (i, arc, place, value)) =
      let ends = arc_ends net i (get_or order m 0) limits arc in
      let same : i ≡ get_or order p 0 = omega (arith, place, ends.0, activities p (omega (arith, lower, inside))) in
      let value' : get_or after (get_or order p 0 - 1) 0 ≡ lag_of net i (get_or order m 0) + get_or after (get_or order m 0 - 1) 0 = omega (arith, value, at_m) in
      inr (
        m,
        omega arith,
        inside,
        subst (λ (h : ℕ). IsArc net h (get_or order m 0)) same arc,
        subst
            (λ (h : ℕ). get_or after (get_or order p 0 - 1) 0 ≡ lag_of net h (get_or order m 0) + get_or after
            (get_or order m 0 - 1) 0) same value',
      )
  reached p lower (inl same) = from (rests.reached p (omega (arith, lower))) where
    old : get_or after (get_or order p 0 - 1) 0 ≡ get_or list (get_or order p 0 - 1) 0
    old = same ∙ apart p (omega (arith, lower, inside)) (λ equal. absurd (omega (arith, equal, lower)))

    from : IsReachedFrom net order list (m + 1) p
        → IsReachedFrom net order after m p
    from (inl none) = inl (old ∙ none)
    from (inr (q, past, within, arc, value)) = inr (
      q,
      omega (arith, past),
      within,
      arc,
      omega (
        arith,
        old,
        value,
        behind q (omega (arith, past)) within
            (λ equal. absurd (omega (arith, equal, past))),
      ),
    )

-- no number is raised above the greatest lag and the tail
pub raised_bound : (net : Net) (j tail most high : ℕ) (before after : List ℕ) → HasGoodLags net → RaisesBefore net j tail before after → most ≤ high
    → 10000 + tail ≤ high → ((x : ℕ) → get_or before x 0 ≤ most) → (x : ℕ) → get_or after x 0 ≤ high
raised_bound net j tail most high before after good raises low enough bound x = by_case (raises.reached x) where
  by_case : (get_or after x 0 ≡ get_or before x 0) ⊎ ((i : ℕ) × IsArc net i j × (x ≡ i - 1) × (get_or after x 0 ≡ lag_of net i j + tail)) → get_or after x 0 ≤ high
  by_case (inl same) = omega (arith, same, bound x, low)
  by_case (inr (i, arc, place, value)) = let lag : lag_of net i j ≤ 10000 = lag_of-limit net i j good in omega (arith, value, lag, enough)
