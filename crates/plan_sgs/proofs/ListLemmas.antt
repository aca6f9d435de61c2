-- Orders of all activities, defined as a whole and entry by entry.
use Rattle.std.proofs.Common.{ℕ, zero, suc, true, false, ◌||◌, nat_eq, ◌≡◌, ◌+◌, ◌≤◌, ◌<◌, inl, inr, List, [], ◌∷◌, ◌++◌, length, get_or, take, drop, refl, sym, ◌∙◌, ap, subst, arith}
use Rattle.std.specs.List.{Contains}
use Rattle.std.proofs.lemmas.List.{append-nil, append_assoc, length-take-le, length-drop, get_or-take, take-append-drop, take_more, get_or_default}
use Rattle.std.proofs.lemmas.List.Elements.{All-from_get_or, Contains-get_or}
use Rattle.std.proofs.lemmas.List.Folds.{list_any_at}
use Rattle.std.proofs.lemmas.Bool.{cases_lt, cases_eq, cases_Bool, both_ways, false≢true, or_cases, or_left, eqb-true, eq-eqb, false_from_ne_true, and_from}
use Rattle.plan_sgs.specs.Problem.{Problem, Link, count, total, LinksInside}
use Rattle.plan_sgs.specs.Rules.{is_member, is_eligible, takes_in_turn, is_activity_list, IsActivityList}
use Rattle.plan_sgs.proofs.TotalLemmas.{total_same}
use Rattle.plan_sgs.proofs.SerialLemmas.{eligible_not, eligible_preds, eligible_from, member_push, member_other, turn_parts, turn_from, one_if, taken_count, taken_none, taken_more, list_parts, takes_each}

-- a member has an index
pub member_place : (j : ℕ) (js : List ℕ) → is_member j js ≡ true → (k : ℕ) × (k < length js) × (get_or js k 0 ≡ j)
member_place j [] has = absurd (false≢true has)
member_place j (x ∷ js) has = elim (or_cases (nat_eq x j) (is_member j js) has) [
  | inl here ↦ (0, omega arith, eqb-true x j here)
  | inr there ↦ let rest = member_place j js there in (suc rest.0, omega (arith, rest.1), rest.2)
]

-- the entry at an index is a member
pub place_member : (js : List ℕ) (k j : ℕ) → k < length js → get_or js k 0 ≡ j → is_member j js ≡ true
place_member js k j within is = list_any_at (λ i. nat_eq i j) js k 0 within (eq-eqb (get_or js k 0) j is)

-- each entry in its turn
pub turn_at : (p : Problem) (js taken : List ℕ) (k : ℕ) → takes_in_turn p taken js ≡ true → k < length js → (get_or js k 0 < count p) × (is_eligible p (taken ++ take k js) (get_or js k 0) ≡ true)
turn_at p [] taken k turns within = absurd (omega (arith, within))
turn_at p (j ∷ js) taken zero turns within =
    let turn = turn_parts p taken j js turns in
    (turn.0, subst (λ (xs : List ℕ). is_eligible p xs j ≡ true) (sym (append-nil taken)) turn.1)
turn_at p (j ∷ js) taken (suc k) turns within =
    let rest = turn_at p js (taken ++ j ∷ []) k (turn_parts p taken j js turns).2 (omega (arith, within)) in
    (rest.0, subst (λ (xs : List ℕ). is_eligible p xs (get_or js k 0) ≡ true) (append_assoc taken (j ∷ []) (take k js)) rest.1)

-- and from all of these the whole
pub turns_from : (p : Problem) (js taken : List ℕ) →
    ((k : ℕ) → k < length js → (get_or js k 0 < count p)
    × (is_eligible p (taken ++ take k js) (get_or js k 0) ≡ true)) → takes_in_turn p taken js ≡ true
turns_from p [] taken each = refl
turns_from p (j ∷ js) taken each =
    let first = each 0 (omega arith) in
    turn_from p taken j js first.0 (subst (λ (xs : List ℕ). is_eligible p xs j ≡ true) (append-nil taken) first.1)
    (turns_from p js (taken ++ j ∷ []) (λ k within.
    let here = each (suc k) (omega (arith, within)) in
    (here.0, subst (λ (xs : List ℕ). is_eligible p xs (get_or js k 0) ≡ true) (sym (append_assoc taken (j ∷ []) (take k js))) here.1)))

-- one more entry in its turn
pub turns_push : (p : Problem) (js taken : List ℕ) (j : ℕ) → takes_in_turn p taken js ≡ true → j < count p → is_eligible p (taken ++ js) j ≡ true → takes_in_turn p taken (js ++ j ∷ []) ≡ true
turns_push p [] taken j turns inside eligible = turn_from p taken j [] inside (subst (λ (xs : List ℕ). is_eligible p xs j ≡ true) (append-nil taken) eligible) refl
turns_push p (i ∷ js) taken j turns inside eligible =
    let turn = turn_parts p taken i js turns in
    turn_from p taken i (js ++ j ∷ []) turn.0 turn.1
    (turns_push p js (taken ++ i ∷ []) j turn.2 inside (subst (λ (xs : List ℕ). is_eligible p xs j ≡ true) (sym (append_assoc taken (i ∷ []) js)) eligible))

-- an order defined entry by entry is one defined as a whole
pub told_by_places : (p : Problem) (js : List ℕ) → is_activity_list p js ≡ true → IsActivityList p js
told_by_places p js list = record {
  each_once = (list_parts p js list).0;
  all_there = λ j inside. let place = member_place j js (takes_each p js j list inside) in subst (Contains js) place.2 (Contains-get_or js place.0 0 place.1);
  none_else = All-from_get_or (λ j. j < count p) js 0 (λ k within. (at k within).0);
  after = λ a b first second k d within from to. after a b first second k d within from to;
} where
  at : (k : ℕ) → k < length js → (get_or js k 0 < count p) × (is_eligible p (take k js) (get_or js k 0) ≡ true)
  at k within = turn_at p js [] k (list_parts p js list).1 within

  after : (a b : ℕ) → a < length js → b < length js → (k : ℕ) (d : Link) → k < length p.links → (get_or p.links k d).from ≡ get_or js a 0 → (get_or p.links k d).to ≡ get_or js b 0 → a < b
  after a b first second k d within from to =
      let pred : is_member (get_or p.links k d).from (take b js) ≡ true = eligible_preds p (take b js) (get_or js b 0) (at b second).1 k d within to in
      let place = member_place (get_or p.links k d).from (take b js) pred in
      let early : place.0 < b = omega (arith, place.1, length-take-le b js (omega (arith, second))) in
      let there : get_or js place.0 0 ≡ get_or js a 0 = sym (get_or-take b js place.0 0 early) ∙ place.2 ∙ from in
      elim (cases_lt a b) [
        | inl before ↦ before
        | inr not_before ↦
            let low : place.0 < a = omega (arith, early, not_before) in
            let new : is_member (get_or js a 0) (take a js) ≡ false = eligible_not p (take a js) (get_or js a 0) (at a first).1 in
            let long : length (take a js) ≡ a = length-take-le a js (omega (arith, first)) in
            let old : is_member (get_or js a 0) (take a js) ≡ true = place_member (take a js) place.0 (get_or js a 0) (omega (arith, low, long)) (get_or-take a js place.0 0 low ∙ there) in
            absurd (both_ways (is_member (get_or js a 0) (take a js)) new old)
      ]

-- a member of a list is a member with one more entry at the end
member_stays : (i j : ℕ) (js : List ℕ) → is_member i js ≡ true → is_member i (js ++ j ∷ []) ≡ true
member_stays i j js has = member_push i j js ∙ or_left (is_member i js) (nat_eq j i || false) has

-- an entry that was in the list isn't counted again
count_again : (p : Problem) (j : ℕ) (js : List ℕ) → is_member j js ≡ true → taken_count p (js ++ j ∷ []) ≡ taken_count p js
count_again p j js has = total_same (count p) (λ i. one_if (is_member i (js ++ j ∷ []))) (λ i. one_if (is_member i js)) (λ i below. elim (cases_eq i j) [
  | inl same ↦
      let both : is_member j (js ++ j ∷ []) ≡ is_member j js = member_stays j j js has ∙ sym has in
      ap one_if (subst (λ (x : ℕ). is_member x (js ++ j ∷ []) ≡ is_member x js) (sym same) both)
  | inr other ↦ ap one_if (member_other i j js other)
])

-- one more entry is counted at most once
count_push : (p : Problem) (j : ℕ) (js : List ℕ) → taken_count p (js ++ j ∷ []) ≤ taken_count p js + 1
count_push p j js = elim (cases_Bool (is_member j js)) [
  | inl has ↦ omega (arith, count_again p j js has)
  | inr new ↦ elim (cases_lt j (count p)) [
    | inl inside ↦ omega (arith, taken_more p js j inside new)
    | inr outside ↦
        let same : taken_count p (js ++ j ∷ []) ≡ taken_count p js =
        total_same (count p) (λ i. one_if (is_member i (js ++ j ∷ []))) (λ i. one_if (is_member i js))
        (λ i below. ap one_if (member_other i j js (λ e. omega (arith, e, below, outside)))) in
        omega (arith, same)
  ]
]

-- so the count is at most the number of entries
count_append : (p : Problem) (ys xs : List ℕ) → taken_count p (xs ++ ys) ≤ taken_count p xs + length ys
count_append p [] xs = let same : taken_count p (xs ++ []) ≡ taken_count p xs = ap (taken_count p) (append-nil xs) in omega (arith, same)
count_append p (y ∷ ys) xs =
    let same : taken_count p ((xs ++ y ∷ []) ++ ys) ≡ taken_count p (xs ++ y ∷ ys) = ap (taken_count p) (append_assoc xs (y ∷ []) ys) in
    omega (arith, same, count_push p y xs, count_append p ys (xs ++ y ∷ []))

-- n ones add up to n
pub total_ones : (n : ℕ) (f : ℕ → ℕ) → ((i : ℕ) → i < n → f i ≡ 1) → total n f ≡ n
total_ones zero f each = refl
total_ones (suc n) f each = omega (arith, total_ones n f (λ i below. each i (omega (arith, below))), each n (omega arith))

-- in a list with as many entries as activities, which contains all of them, no entry recurs
none_again : (p : Problem) (js : List ℕ) (k : ℕ) → length js ≡ count p → ((j : ℕ) → j < count p → is_member j js ≡ true) → k < length js → is_member (get_or js k 0) (take k js) ≡ true → ⊥
none_again p js k size all within again =
    let counted : taken_count p js ≡ count p = total_ones (count p) (λ i. one_if (is_member i js)) (λ i below. ap one_if (all i below)) in
    let split : taken_count p (take (k + 1) js ++ drop (k + 1) js) ≡ taken_count p js = ap (taken_count p) (take-append-drop (k + 1) js) in
    let front : taken_count p (take (k + 1) js) ≡ taken_count p (take k js ++ get_or js k 0 ∷ []) = ap (taken_count p) (take_more js k 0 within) in
    let same : taken_count p (take k js ++ get_or js k 0 ∷ []) ≡ taken_count p (take k js) = count_again p (get_or js k 0) (take k js) again in
    let few : taken_count p (take k js) ≤ taken_count p [] + length (take k js) = count_append p (take k js) [] in
    omega (arith, counted, split, front, same, few, taken_none p, length-take-le k js (omega (arith, within)), length-drop (k + 1) js, size, within, count_append p (drop (k + 1) js) (take (k + 1) js))

-- an order defined as a whole is one defined entry by entry
pub told_by_entries : (p : Problem) (js : List ℕ) → LinksInside p → IsActivityList p js → is_activity_list p js ≡ true
told_by_entries p js inside list = and_from (nat_eq (length js) (count p)) (takes_in_turn p [] js)
    (eq-eqb (length js) (count p) list.each_once) (turns_from p js []
    (λ k within. (list.none_else k 0 within, eligible k within))) where
      there : (j : ℕ) → j < count p → (k : ℕ) × (k < length js) × (get_or js k 0 ≡ j)
      there j below = let has = list.all_there j below in (has.0, has.1, get_or_default js has.0 0 j has.1 ∙ has.2)

      all : (j : ℕ) → j < count p → is_member j js ≡ true
      all j below = let place = there j below in place_member js place.0 j place.1 place.2

      eligible : (k : ℕ) → k < length js → is_eligible p (take k js) (get_or js k 0) ≡ true
      eligible k within =
          eligible_from p (take k js) (get_or js k 0) (false_from_ne_true (is_member (get_or js k 0) (take k js)) (none_again p js k list.each_once all within)) (λ l d low to.
          let place = there (get_or p.links l d).from (inside l d low).0 in
          let early : place.0 < k = list.after place.0 k place.1 within l d low (sym place.2) to in
          place_member (take k js) place.0 (get_or p.links l d).from (omega (arith, early, length-take-le k js (omega (arith, within)))) (get_or-take k js place.0 0 early ∙ place.2))
