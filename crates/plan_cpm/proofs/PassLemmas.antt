-- The passes over the order: the part that is done, and one step.
use Rattle.std.proofs.Common.{ℕ, ◌≡◌, ◌≢◌, ◌+◌, ◌-◌, ◌≤◌, ◌<◌, ◌⊎◌, inl, inr, List, length, get_or, set, refl, sym, ap, subst, arith, get_or-set_same, get_or-set_other}
use Rattle.std.proofs.lemmas.List.{set_past}
use Rattle.std.proofs.lemmas.Bool.{cases_lt, cases_eq, cases_order}
use Rattle.plan_net.specs.Network.{Net, count_of, IsArc, IsActivity}
use Rattle.plan_net.specs.Order.{IsLeastOrder}
use Rattle.plan_net.specs.Limits.{IsWithinLimits}
use Rattle.plan_net.proofs.RowLemmas.{arc_ends}
use Rattle.plan_net.proofs.RisingLemmas.{place_in}
use Rattle.plan_net.proofs.CaughtLemmas.{earlier, once_in}

-- the numbers of the activities from index `low` to before `high` of the order are correct
pub record RightBetween (P : ℕ → ℕ → Type 0) (order list : List ℕ) (low high : ℕ) : Type 0 where
  pub right : (k : ℕ) → low ≤ k → k < high → k < length order → P (get_or order k 0) (get_or list (get_or order k 0 - 1) 0)

-- the activities at two indices of the order have two indices in a list
pub order_apart : (net : Net) (order : List ℕ) → IsLeastOrder net order →
    ((k : ℕ) → k < length order → IsActivity net (get_or order k 0)) → (k m : ℕ) → k < length order →
    m < length order → k ≢ m → get_or order k 0 - 1 ≢ get_or order m 0 - 1
order_apart net order least activities k m within inside apart same = distinct (omega (arith, same, activities k within, activities m inside)) where
  distinct : get_or order k 0 ≡ get_or order m 0 → ⊥
  distinct equal = elim (cases_order k m) [
    | inl one ↦ apart one
    | inr w ↦ elim w [
      | inl lower ↦ once_in net order least.least m k lower inside equal
      | inr higher ↦ once_in net order least.least k m higher within (sym equal)
    ]
  ]

-- setting the number of one activity changes that of no other
pub set_apart : (net : Net) (order list : List ℕ) → IsLeastOrder net order →
    ((k : ℕ) → k < length order → IsActivity net (get_or order k 0)) → (k m v : ℕ) → k < length order →
    m < length order → k ≢ m → get_or (set list (get_or order m 0 - 1) v)
    (get_or order k 0 - 1) 0 ≡ get_or list (get_or order k 0 - 1) 0
set_apart net order list least activities k m v within inside apart =
    get_or-set_other list (get_or order m 0 - 1) (get_or order k 0 - 1) v 0
    (order_apart net order least activities k m within inside apart)

-- one more number is correct
pub RightBetween-set : (P : ℕ → ℕ → Type 0) (net : Net) (order list : List ℕ) (low high m v : ℕ) →
    IsLeastOrder net order → ((k : ℕ) → k < length order → IsActivity net (get_or order k 0)) →
    length list ≡ count_of net → m < length order → P (get_or order m 0) v → (new_low new_high : ℕ) →
    ((k : ℕ) → new_low ≤ k → k < new_high → k ≢ m → (low ≤ k) × (k < high)) →
    RightBetween P order list low high → RightBetween P order
    (set list (get_or order m 0 - 1) v) new_low new_high
RightBetween-set P net order list low high m v least activities whole inside here new_low new_high between
    right = record { right = λ k lower upper within. by_case k lower upper within (cases_eq k m) } where
      by_case : (k : ℕ) → new_low ≤ k → k < new_high → k < length order → (k ≡ m) ⊎ (k ≡ m → ⊥) → P (get_or order k 0) (get_or (set list (get_or order m 0 - 1) v) (get_or order k 0 - 1) 0)
      by_case k lower upper within (inl same) =
          let a = activities m inside in
          let place : get_or order m 0 - 1 < length list = omega (arith, a, whole) in
          subst (λ (x : ℕ). P (get_or order x 0) (get_or (set list (get_or order m 0 - 1) v) (get_or order x 0 - 1) 0)) (sym same)
          (subst (P (get_or order m 0)) (sym (get_or-set_same list (get_or order m 0 - 1) v 0 place)) here)
      by_case k lower upper within (inr other) =
          let bounds = between k lower upper other in
          subst (P (get_or order k 0)) (sym (set_apart net order list least activities k m v within inside other)) (right.right k bounds.0 bounds.1 within)

-- the predecessors of the activity at m are done
pub preds_right : (P : ℕ → ℕ → Type 0) (net : Net) (order list : List ℕ) (m : ℕ) → IsLeastOrder net order →
    m < length order → RightBetween P order list 0 m → (i : ℕ) → IsArc net i (get_or order m 0) →
    P i (get_or list (i - 1) 0)
preds_right P net order list m least inside right i arc =
    let place = earlier net order least.least i (get_or order m 0) m arc inside refl in
    subst (λ (x : ℕ). P x (get_or list (x - 1) 0)) place.2 (right.right place.0 (omega arith) place.1 (omega (arith, place.1)))

-- a fact of the activities after index m is a fact of the successors of the one at m
pub succs_done : (Q : ℕ → Type 0) (net : Net) (order : List ℕ) (m : ℕ) → IsWithinLimits net →
    IsLeastOrder net order → m < length order → ((p : ℕ) → m + 1 ≤ p → p < length order →
    Q (get_or order p 0)) → (k : ℕ) → IsArc net (get_or order m 0) k → Q k
succs_done Q net order m limits least inside done k arc = by_place (place_in order k (least.each k (arc_ends net (get_or order m 0) k limits arc).1)) where
  same_place : (q : ℕ) → q < length order → get_or order q 0 ≡ get_or order m 0 → (m ≡ q) ⊎ ((m < q) ⊎ (q < m)) → m ≡ q
  same_place q inside' same (inl equal) = equal
  same_place q inside' same (inr (inl lower)) = absurd (once_in net order least.least q m lower inside' (sym same))
  same_place q inside' same (inr (inr higher)) = absurd (once_in net order least.least m q higher inside same)

  by_place : (p : ℕ) × (p < length order) × (get_or order p 0 ≡ k) → Q k
  by_place (p, within, is) =
      let before = earlier net order least.least (get_or order m 0) k p arc within is in
      let at : m ≡ before.0 = same_place before.0 (omega (arith, before.1, within)) before.2 (cases_order m before.0) in
      subst Q is (done p (omega (arith, at, before.1)) within)

-- the successors of the activity at m are done, from the end on
pub succs_right : (P : ℕ → ℕ → Type 0) (net : Net) (order list : List ℕ) (m : ℕ) → IsWithinLimits net →
    IsLeastOrder net order → m < length order → RightBetween P order list (m + 1) (length order) → (k : ℕ) →
    IsArc net (get_or order m 0) k → P k (get_or list (k - 1) 0)
succs_right P net order list m limits least inside right = succs_done (λ j. P j (get_or list (j - 1) 0)) net order m limits least inside (λ p lower within. right.right p lower within within)

-- if the order is done, each activity is
pub each_right : (P : ℕ → ℕ → Type 0) (net : Net) (order list : List ℕ) → IsLeastOrder net order → RightBetween P order list 0 (length order) → (j : ℕ) → IsActivity net j → P j (get_or list (j - 1) 0)
each_right P net order list least right j activity =
    let place = place_in order j (least.each j activity) in
    subst (λ (x : ℕ). P x (get_or list (x - 1) 0)) place.2 (right.right place.0 (omega arith) place.1 place.1)

-- a bound on all numbers, with one more set
pub bound_set : (list : List ℕ) (at v low high : ℕ) → low ≤ high → v ≤ high → ((k : ℕ) → get_or list k 0 ≤ low) → (k : ℕ) → get_or (set list at v) k 0 ≤ high
bound_set list at v low high order small bound k = by_case (cases_eq k at) (cases_lt at (length list)) where
  by_case : (k ≡ at) ⊎ (k ≡ at → ⊥) → (at < length list) ⊎ (length list ≤ at) → get_or (set list at v) k 0 ≤ high
  by_case (inr other) w = omega (arith, get_or-set_other list at k v 0 other, bound k)
  by_case (inl same) (inl within) = subst (λ (x : ℕ). get_or (set list at v) x 0 ≤ high) (sym same) (omega (arith, get_or-set_same list at v 0 within))
  by_case (inl same) (inr past) = omega (arith, ap (λ (xs : List ℕ). get_or xs k 0) (set_past list at v past), bound k)
