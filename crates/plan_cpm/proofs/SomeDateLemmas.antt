-- A sound network has dates: the greatest lengths of paths, along its order and back, and the
-- floats.
use Rattle.std.proofs.Common.{ℕ, suc, zero, ◌≡◌, ◌+◌, ◌-◌, ◌≤◌, ◌<◌, ◌⊎◌, inl, inr, List, [], ◌∷◌, ◌++◌, length, get_or, set, replicate, refl, sym, ◌∙◌, ap, subst, arith}
use Rattle.std.specs.List.{Contains}
use Rattle.std.proofs.lemmas.List.{length-set, length-replicate, length_push, get_or_append_left, get_or_push}
use Rattle.std.proofs.lemmas.List.Elements.{Contains-append_right}
use Rattle.std.proofs.lemmas.Bool.{cases_eq, cases_lt}
use Rattle.plan_net.specs.Network.{Net, count_of, duration_of, lag_of, IsActivity, IsArc, IsGreatest}
use Rattle.plan_net.specs.Order.{IsLeastOrder}
use Rattle.plan_net.specs.Limits.{IsWithinLimits, IsSound}
use Rattle.plan_net.proofs.RowLemmas.{arc_ends}
use Rattle.plan_net.proofs.SearchLemmas.{Decided, in_cons}
use Rattle.plan_net.proofs.SomeOrderLemmas.{order_of_sound}
use Rattle.plan_cpm.specs.Lengths.{IsLength, IsLengthTo, IsLengthFrom, AreFinishes, AreTails}
use Rattle.plan_cpm.specs.Dates.{DateTable, AreDates, AreFreeFloats, IsNextStart}
use Rattle.plan_cpm.proofs.StepLemmas.{finish_step, tail_step}
use Rattle.plan_cpm.proofs.PassLemmas.{RightBetween, RightBetween-set, preds_right, succs_right, each_right}
use Rattle.plan_cpm.proofs.JoinLemmas.{after_finish, finish_at_most_next}
use Rattle.plan_cpm.proofs.DateLemmas.{duration_greatest, AreDates-from_parts}

-- ---- the greatest and the least over arcs

-- w is the greatest value of f on the arcs with P, 0 if there is none
record IsMost (P : ℕ × ℕ → Type 0) (f : ℕ × ℕ → ℕ) (arcs : List (ℕ × ℕ)) (w : ℕ) : Type 0 where
  above : (arc : ℕ × ℕ) → Contains arcs arc → P arc → f arc ≤ w
  reached : (w ≡ 0) ⊎ ((arc : ℕ × ℕ) × Contains arcs arc × P arc × (w ≡ f arc))

some_most : (P : ℕ × ℕ → Type 0) (f : ℕ × ℕ → ℕ) → ((arc : ℕ × ℕ) → Decided (P arc)) → (arcs : List (ℕ × ℕ)) → (w : ℕ) × IsMost P f arcs w
some_most P f decide [] = (0, record { above = λ arc has holds. absurd (omega (arith, has.1)); reached = inl refl })
some_most P f decide (first ∷ arcs) = by_first (decide first) (some_most P f decide arcs)
  where
    -- a value that is attained among the other arcs
    later : (w : ℕ) → (w ≡ 0) ⊎ ((arc : ℕ × ℕ) × Contains arcs arc × P arc × (w ≡ f arc)) → (w ≡ 0) ⊎ ((arc : ℕ × ℕ) × Contains (first ∷ arcs) arc × P arc × (w ≡ f arc))
    later w (inl none) = inl none
    later w (inr (arc, has, holds, is)) = inr (arc, Contains-append_right (first ∷ []) arcs arc has, holds, is)

    below : (w high : ℕ) → IsMost P f arcs w → w ≤ high → f first ≤ high → (arc : ℕ × ℕ) → (first ≡ arc) ⊎ Contains arcs arc → P arc → f arc ≤ high
    below w high most more here arc (inl same) holds = subst (λ (a : ℕ × ℕ). f a ≤ high) same here
    below w high most more here arc (inr has) holds = omega (arith, most.above arc has holds, more)

    past : (w : ℕ) → IsMost P f arcs w → (P first → ⊥) → (arc : ℕ × ℕ) → (first ≡ arc) ⊎ Contains arcs arc → P arc → f arc ≤ w
    past w most fails arc (inl same) holds = absurd (fails (subst P (sym same) holds))
    past w most fails arc (inr has) holds = most.above arc has holds

    by_first : Decided (P first) → (w : ℕ) × IsMost P f arcs w → (w : ℕ) × IsMost P f (first ∷ arcs) w
    by_first (inr fails) (w, most) =
        (w, record { above = λ arc has. past w most fails arc (in_cons first arcs arc has); reached = later w most.reached })
    by_first (inl holds) (w, most) = elim (cases_lt w (f first)) [
      | inl more ↦ (
        f first,
        record {
          above = λ arc has. below w (f first) most (omega (arith, more)) (omega arith) arc (in_cons first arcs arc has);
          reached = inr (first, (0, omega arith, refl), holds, refl);
        },
      )
      | inr less ↦ (w, record { above = λ arc has. below w w most (omega arith) less arc (in_cons first arcs arc has); reached = later w most.reached })
    ]

-- w is the least of f on the arcs with P and of a limit
record IsFewest (P : ℕ × ℕ → Type 0) (f : ℕ × ℕ → ℕ) (limit : ℕ) (arcs : List (ℕ × ℕ)) (w : ℕ) : Type 0 where
  within : w ≤ limit
  below : (arc : ℕ × ℕ) → Contains arcs arc → P arc → w ≤ f arc
  reached : (w ≡ limit) ⊎ ((arc : ℕ × ℕ) × Contains arcs arc × P arc × (w ≡ f arc))

some_fewest : (P : ℕ × ℕ → Type 0) (f : ℕ × ℕ → ℕ) (limit : ℕ) → ((arc : ℕ × ℕ) → Decided (P arc)) → (arcs : List (ℕ × ℕ)) → (w : ℕ) × IsFewest P f limit arcs w
some_fewest P f limit decide [] = (limit, record { within = omega arith; below = λ arc has holds. absurd (omega (arith, has.1)); reached = inl refl })
some_fewest P f limit decide (first ∷ arcs) = by_first (decide first) (some_fewest P f limit decide arcs)
  where
    later : (w : ℕ) → (w ≡ limit) ⊎ ((arc : ℕ × ℕ) × Contains arcs arc × P arc × (w ≡ f arc)) → (w ≡ limit) ⊎ ((arc : ℕ × ℕ) × Contains (first ∷ arcs) arc × P arc × (w ≡ f arc))
    later w (inl none) = inl none
    later w (inr (arc, has, holds, is)) = inr (arc, Contains-append_right (first ∷ []) arcs arc has, holds, is)

    low : (w least : ℕ) → IsFewest P f limit arcs w → least ≤ w → least ≤ f first → (arc : ℕ × ℕ) → (first ≡ arc) ⊎ Contains arcs arc → P arc → least ≤ f arc
    low w least fewest less here arc (inl same) holds = subst (λ (a : ℕ × ℕ). least ≤ f a) same here
    low w least fewest less here arc (inr has) holds = omega (arith, fewest.below arc has holds, less)

    past : (w : ℕ) → IsFewest P f limit arcs w → (P first → ⊥) → (arc : ℕ × ℕ) → (first ≡ arc) ⊎ Contains arcs arc → P arc → w ≤ f arc
    past w fewest fails arc (inl same) holds = absurd (fails (subst P (sym same) holds))
    past w fewest fails arc (inr has) holds = fewest.below arc has holds

    by_first : Decided (P first) → (w : ℕ) × IsFewest P f limit arcs w → (w : ℕ) × IsFewest P f limit (first ∷ arcs) w
    by_first (inr fails) (w, fewest) =
        (w, record { within = fewest.within; below = λ arc has. past w fewest fails arc (in_cons first arcs arc has); reached = later w fewest.reached })
    by_first (inl holds) (w, fewest) = elim (cases_lt (f first) w) [
      | inl less ↦ (
        f first,
        record {
          within = omega (arith, less, fewest.within);
          below = λ arc has. low w (f first) fewest (omega (arith, less)) (omega arith) arc (in_cons first arcs arc has);
          reached = inr (first, (0, omega arith, refl), holds, refl);
        },
      )
      | inr more ↦ (w, record { within = fewest.within; below = λ arc has. low w w fewest (omega arith) more arc (in_cons first arcs arc has); reached = later w fewest.reached })
    ]

-- ---- a list with an entry for each activity

pub some_list : (P : ℕ → ℕ → Type 0) (n : ℕ) → ((j : ℕ) → 1 ≤ j → j ≤ n → (v : ℕ) × P j v)
    → (list : List ℕ) × (length list ≡ n) × ((j : ℕ) → 1 ≤ j → j ≤ n → P j (get_or list (j - 1) 0))
some_list P zero each = ([], refl, λ j low high. absurd (omega (arith, low, high)))
some_list P (suc n) each = by_rest (some_list P n (λ j low high. each j low (omega (arith, high)))) (each (suc n) (omega arith) (omega arith))
  where
    by_rest : (list : List ℕ) × (length list ≡ n) × ((j : ℕ) → 1 ≤ j → j ≤ n → P j (get_or list (j - 1) 0)) → (v : ℕ) × P (suc n) v
        → (list : List ℕ) × (length list ≡ suc n) × ((j : ℕ) → 1 ≤ j → j ≤ suc n → P j (get_or list (j - 1) 0))
    by_rest (list, whole, right) (v, here) = (list ++ v ∷ [], omega (arith, length_push list v, whole), λ j low high. at j low high (cases_lt n j))
      where
        at : (j : ℕ) → 1 ≤ j → j ≤ suc n → (n < j) ⊎ (j ≤ n) → P j (get_or (list ++ v ∷ []) (j - 1) 0)
        at j low high (inr before) =
            subst (P j) (sym (get_or_append_left list (v ∷ []) 0 (j - 1) (omega (arith, low, before, whole)))) (right j low before)
        at j low high (inl last) =
            let same : suc n ≡ j = omega (arith, last, high) in
            let place : length list ≡ j - 1 = omega (arith, whole, same) in
            subst (P j) (sym (get_or_push list v 0 (j - 1) place)) (subst (λ (k : ℕ). P k v) same here)

-- ---- finishes and tails

module _ (net : Net) (limits : IsWithinLimits net) (order : List ℕ) (least : IsLeastOrder net order) (activities : (k : ℕ) → k < length order → IsActivity net (get_or order k 0)) where
  -- the finish of the activity at m, if those before it are correct
  some_finish : (list : List ℕ) (m : ℕ) → m < length order → RightBetween (λ j. IsGreatest (IsLengthTo net j)) order list 0 m → (v : ℕ) × IsGreatest (IsLengthTo net (get_or order m 0)) v
  some_finish list m inside right = by_most (some_most (λ arc. arc.1 ≡ j) (λ arc. get_or list (arc.0 - 1) 0 + lag_of net arc.0 j) (λ arc. cases_eq arc.1 j) net.arcs)
    where
      j : ℕ
      j = get_or order m 0

      by_most : (w : ℕ) × IsMost (λ arc. arc.1 ≡ j) (λ arc. get_or list (arc.0 - 1) 0 + lag_of net arc.0 j) net.arcs w → (v : ℕ) × IsGreatest (IsLengthTo net (get_or order m 0)) v
      by_most (w, most) = (
        w + duration_of net j,
        finish_step net j (λ i. get_or list (i - 1) 0) w (activities m inside)
            (preds_right (λ h. IsGreatest (IsLengthTo net h)) net order list m least inside right)
            (λ i arc. most.above (i, j) arc refl) (by_reached most.reached),
      )
        where
          by_reached : (w ≡ 0) ⊎ ((arc : ℕ × ℕ) × Contains net.arcs arc × (arc.1 ≡ j) × (w ≡ get_or list (arc.0 - 1) 0 + lag_of net arc.0 j))
              → (w ≡ 0) ⊎ ((i : ℕ) × IsArc net i j × (w ≡ get_or list (i - 1) 0 + lag_of net i j))
          by_reached (inl none) = inl none
          by_reached (inr (arc, has, same, is)) = inr (arc.0, subst (λ (k : ℕ). IsArc net arc.0 k) same has, is)

  -- the finishes of the first m activities of the order
  finishes_to : (m : ℕ) → m ≤ length order → (list : List ℕ) × (length list ≡ count_of net) × RightBetween (λ j. IsGreatest (IsLengthTo net j)) order list 0 m
  finishes_to zero few = (replicate (count_of net) 0, length-replicate (count_of net) 0, record { right = λ k lower upper within. absurd (omega (arith, upper)) })
  finishes_to (suc m) few =
      let before = finishes_to m (omega (arith, few)) in
      let here = some_finish before.0 m (omega (arith, few)) before.2 in (
        set before.0 (get_or order m 0 - 1) here.0,
        length-set before.0 (get_or order m 0 - 1) here.0 ∙ before.1,
        RightBetween-set (λ j. IsGreatest (IsLengthTo net j)) net order before.0 0 m m here.0 least activities before.1 (omega (arith, few)) here.1 0 (suc m)
            (λ k lower upper other. (omega arith, omega (arith, upper, other))) before.2,
      )

  some_finishes : (list : List ℕ) × AreFinishes net list
  some_finishes =
      let all = finishes_to (length order) (omega arith) in
      (all.0, record { whole = all.1; greatest = each_right (λ j. IsGreatest (IsLengthTo net j)) net order all.0 least all.2 })

  -- the tail of the activity at m, if those after it are correct
  some_tail : (list : List ℕ) (m : ℕ) → m < length order →
      RightBetween (λ j. IsGreatest (IsLengthFrom net j)) order list (m + 1) (length order) →
      (v : ℕ) × IsGreatest (IsLengthFrom net (get_or order m 0)) v
  some_tail list m inside right = by_most (some_most (λ arc. arc.0 ≡ j) (λ arc. lag_of net j arc.1 + get_or list (arc.1 - 1) 0) (λ arc. cases_eq arc.0 j) net.arcs)
    where
      j : ℕ
      j = get_or order m 0

      by_most : (w : ℕ) × IsMost (λ arc. arc.0 ≡ j) (λ arc. lag_of net j arc.1 + get_or list (arc.1 - 1) 0) net.arcs w → (v : ℕ) × IsGreatest (IsLengthFrom net (get_or order m 0)) v
      by_most (w, most) = (
        duration_of net j + w,
        tail_step net j (λ k. get_or list (k - 1) 0) w (activities m inside)
            (succs_right (λ h. IsGreatest (IsLengthFrom net h)) net order list m limits least inside right)
            (λ k arc. most.above (j, k) arc refl) (by_reached most.reached) (λ k arc. (arc_ends net j k limits arc).1),
      )
        where
          by_reached : (w ≡ 0) ⊎ ((arc : ℕ × ℕ) × Contains net.arcs arc × (arc.0 ≡ j) × (w ≡ lag_of net j arc.1 + get_or list (arc.1 - 1) 0))
              → (w ≡ 0) ⊎ ((k : ℕ) × IsArc net j k × (w ≡ lag_of net j k + get_or list (k - 1) 0))
          by_reached (inl none) = inl none
          by_reached (inr (arc, has, same, is)) = inr (arc.1, subst (λ (h : ℕ). IsArc net h arc.1) same has, is)

  -- the tails of the last n activities of the order
  tails_of_last : (n m : ℕ) → n + m ≡ length order → (list : List ℕ) × (length list ≡ count_of net) × RightBetween (λ j. IsGreatest (IsLengthFrom net j)) order list m (length order)
  tails_of_last zero m all = (replicate (count_of net) 0, length-replicate (count_of net) 0, record { right = λ k lower upper within. absurd (omega (arith, all, lower, upper)) })
  tails_of_last (suc n) m all =
      let behind = tails_of_last n (m + 1) (omega (arith, all)) in
      let here = some_tail behind.0 m (omega (arith, all)) behind.2 in (
        set behind.0 (get_or order m 0 - 1) here.0,
        length-set behind.0 (get_or order m 0 - 1) here.0 ∙ behind.1,
        RightBetween-set (λ j. IsGreatest (IsLengthFrom net j)) net order behind.0 (m + 1) (length order) m here.0 least activities behind.1 (omega (arith, all)) here.1 m (length order)
            (λ k lower upper other. (omega (arith, lower, other), upper)) behind.2,
      )

  some_tails : (list : List ℕ) × AreTails net list
  some_tails =
      let all = tails_of_last (length order) 0 (omega arith) in
      (all.0, record { whole = all.1; greatest = each_right (λ j. IsGreatest (IsLengthFrom net j)) net order all.0 least all.2 })

-- ---- the duration and the free floats

-- the greatest number of a list that isn't empty
some_greatest : (first : ℕ) (others : List ℕ) → (w : ℕ)
    × ((k : ℕ) × (k < length (first ∷ others)) × (get_or (first ∷ others) k 0 ≡ w))
    × ((k : ℕ) → k < length (first ∷ others) → get_or (first ∷ others) k 0 ≤ w)
some_greatest first [] = (first, (0, omega arith, refl), λ k within. only k within)
  where
    only : (k : ℕ) → k < length (first ∷ []) → get_or (first ∷ []) k 0 ≤ first
    only zero within = omega arith
    only (suc k) within = absurd (omega (arith, within))
some_greatest first (x ∷ others) = by_rest (some_greatest x others)
  where
    by_rest : (w : ℕ) × ((k : ℕ) × (k < length (x ∷ others)) × (get_or (x ∷ others) k 0 ≡ w)) × ((k : ℕ) → k < length (x ∷ others) → get_or (x ∷ others) k 0 ≤ w)
        → (w : ℕ) × ((k : ℕ) × (k < length (first ∷ x ∷ others)) × (get_or (first ∷ x ∷ others) k 0 ≡ w)) × ((k : ℕ) → k < length (first ∷ x ∷ others) → get_or (first ∷ x ∷ others) k 0 ≤ w)
    by_rest (w, (k, within, is), above) = elim (cases_lt w first) [
      | inl more ↦ (first, (0, omega arith, refl), λ h inside. front h inside more)
      | inr less ↦ (w, (suc k, omega (arith, within), is), λ h inside. rest h inside less)
    ]
      where
        front : (h : ℕ) → h < length (first ∷ x ∷ others) → w < first → get_or (first ∷ x ∷ others) h 0 ≤ first
        front zero inside more = omega arith
        front (suc h) inside more = omega (arith, more, above h (omega (arith, inside)))

        rest : (h : ℕ) → h < length (first ∷ x ∷ others) → first ≤ w → get_or (first ∷ x ∷ others) h 0 ≤ w
        rest zero inside less = omega (arith, less)
        rest (suc h) inside less = above h (omega (arith, inside))

some_duration : (net : Net) (finishes : List ℕ) → IsWithinLimits net → AreFinishes net finishes → (w : ℕ) × IsGreatest (IsLength net) w
some_duration net finishes limits are = by_list finishes refl
  where
    by_list : (list : List ℕ) → finishes ≡ list → (w : ℕ) × IsGreatest (IsLength net) w
    by_list [] is = absurd (omega (arith, ap length is, are.whole, limits.size.0))
    by_list (first ∷ others) is =
        let found = some_greatest first others in
        (found.0, duration_greatest net (first ∷ others) found.0 limits (subst (AreFinishes net) is are) found.1 found.2)

-- the least start of a successor less its lag
some_next : (net : Net) (finishes : List ℕ) (duration j : ℕ) → IsWithinLimits net → AreFinishes net finishes → IsActivity net j → (v : ℕ) × IsNextStart net finishes duration j v
some_next net finishes duration j limits are activity =
    by_fewest (some_fewest (λ arc. arc.0 ≡ j) (λ arc. get_or finishes (arc.1 - 1) 0 - duration_of net arc.1 - lag_of net j arc.1) duration (λ arc. cases_eq arc.0 j) net.arcs)
  where
    room : (k : ℕ) → IsArc net j k → lag_of net j k + duration_of net k ≤ get_or finishes (k - 1) 0
    room k arc =
        let end = (arc_ends net j k limits arc).1 in
        let after = after_finish net j k (get_or finishes (j - 1) 0) (get_or finishes (k - 1) 0) arc (are.greatest j activity) (are.greatest k end) in
        omega (arith, after)

    by_fewest : (w : ℕ) × IsFewest (λ arc. arc.0 ≡ j) (λ arc. get_or finishes (arc.1 - 1) 0 - duration_of net arc.1 - lag_of net j arc.1) duration net.arcs w
        → (v : ℕ) × IsNextStart net finishes duration j v
    by_fewest (w, fewest) = (
      w,
      record {
        below = λ k arc. omega (arith, fewest.below (j, k) arc refl, room k arc);
        within = fewest.within;
        reached = by_reached fewest.reached;
      },
    )
      where
        by_reached : (w ≡ duration) ⊎ ((arc : ℕ × ℕ) × Contains net.arcs arc × (arc.0 ≡ j) × (w ≡ get_or finishes (arc.1 - 1) 0 - duration_of net arc.1 - lag_of net j arc.1))
            → (w ≡ duration) ⊎ ((k : ℕ) × IsArc net j k × (w + lag_of net j k + duration_of net k ≡ get_or finishes (k - 1) 0))
        by_reached (inl whole) = inl whole
        by_reached (inr (arc, has, same, is)) =
            let there : IsArc net j arc.1 = subst (λ (h : ℕ). IsArc net h arc.1) same has in
            inr (arc.1, there, omega (arith, is, room arc.1 there))

some_floats : (net : Net) (finishes : List ℕ) (duration : ℕ) → IsWithinLimits net → AreFinishes net finishes →
    IsGreatest (IsLength net) duration → (list : List ℕ) × AreFreeFloats net finishes duration list
some_floats net finishes duration limits are all =
    let listed = some_list (λ j v. IsNextStart net finishes duration j (get_or finishes (j - 1) 0 + v)) (count_of net) (λ j low high. float j (low, high)) in
    (listed.0, record { whole = listed.1; next = λ j activity. listed.2 j activity.0 activity.1 })
  where
    float : (j : ℕ) → IsActivity net j → (v : ℕ) × IsNextStart net finishes duration j (get_or finishes (j - 1) 0 + v)
    float j activity =
        let next = some_next net finishes duration j limits are activity in
        let room : get_or finishes (j - 1) 0 ≤ next.0 = finish_at_most_next net finishes duration j next.0 limits are all activity next.1 in
        let same : next.0 ≡ get_or finishes (j - 1) 0 + (next.0 - get_or finishes (j - 1) 0) = omega (arith, room) in
        (next.0 - get_or finishes (j - 1) 0, subst (IsNextStart net finishes duration j) same next.1)

-- ---- dates

-- each entry of an order is an activity
pub order_activities : (net : Net) (order : List ℕ) → IsLeastOrder net order → (k : ℕ) → k < length order → IsActivity net (get_or order k 0)
order_activities net order least k within = (least.least k within).0.0

-- a sound network has dates
pub some_dates : (net : Net) → IsSound net → (dates : DateTable) × AreDates net dates
some_dates net sound = by_order (order_of_sound net sound)
  where
    by_order : (order : List ℕ) × IsLeastOrder net order → (dates : DateTable) × AreDates net dates
    by_order (order, least) =
        let finishes = some_finishes net sound.limits order least (order_activities net order least) in
        let tails = some_tails net sound.limits order least (order_activities net order least) in
        let duration = some_duration net finishes.0 sound.limits finishes.1 in
        let floats = some_floats net finishes.0 duration.0 sound.limits finishes.1 duration.1 in
        let dates : DateTable = record { duration = duration.0; durations = net.durations; finishes = finishes.0; tails = tails.0; free_floats = floats.0 } in (
          dates,
          AreDates-from_parts net dates (record {
            limits = sound.limits;
            durations = refl;
            finishes = finishes.1;
            tails = tails.1;
            duration = duration.1;
            free_floats = floats.1;
          }),
        )
