-- Marks on activities and lists of indices: the activities that may come next by either.
use Rattle.std.proofs.Common.{ℕ, suc, zero, Bool, true, false, cond, ◌≡◌, ◌+◌, ◌-◌, ◌≤◌, ◌<◌, inl, inr, List, [], ◌∷◌, ◌++◌, length, get_or, set, take, replicate, nat_eq, refl, sym, ◌∙◌, ap, subst, arith, get_or-set_same, get_or-set_other}
use Rattle.std.specs.List.{All}
use Rattle.std.proofs.lemmas.List.{length-set, length-replicate, get_or-replicate, length-take-le, get_or-take}
use Rattle.std.proofs.lemmas.Bool.{cases_eq, cases_Bool, eqb-true, eq-eqb, cond-true, cond-false}
use Rattle.plan_net.specs.Network.{IsArc, count_of}
use Rattle.plan_net.specs.Limits.{IsSound}
use Rattle.plan_net.specs.Order.{IsLeastOrder, IsTopological}
use Rattle.plan_net.proofs.RowLemmas.{arc_ends}
use Rattle.plan_net.proofs.RisingLemmas.{place_in}
use Rattle.plan_sgs.specs.Problem.{count, IsRanked}
use Rattle.plan_sgs.specs.Rules.{is_member, is_eligible}
use Rattle.plan_sgs.specs.Instances.{Planned, problem_of}
use Rattle.plan_sgs.specs.Eligibility.{AreMarksOf, IsReleased, CanCome}
use Rattle.plan_sgs.proofs.InstanceLemmas.{count-problem}
use Rattle.plan_sgs.proofs.SerialLemmas.{eligible_not, eligible_preds, eligible_from, member_last, member_other}
use Rattle.plan_sgs.proofs.BoundedLemmas.{links_from, link_at}

-- no mark is set if nothing is taken
pub marks_first : (n : ℕ) → AreMarksOf n (replicate n false) []
marks_first n = record { size = length-replicate n false; each = λ i inside. get_or-replicate n i false false inside }

-- one more mark
pub marks_set : (n : ℕ) (marks : List Bool) (taken : List ℕ) (j : ℕ) → AreMarksOf n marks taken → j < n → AreMarksOf n (set marks j true) (taken ++ j ∷ [])
marks_set n marks taken j are inside = record {
  size = length-set marks j true ∙ are.size;
  each = λ i within. elim (cases_eq i j) [
    | inl same ↦
        let here : get_or (set marks j true) j false ≡ is_member j (taken ++ j ∷ []) = get_or-set_same marks j true false (omega (arith, are.size, inside)) ∙ sym (member_last j taken) in
        subst (λ (k : ℕ). get_or (set marks j true) k false ≡ is_member k (taken ++ j ∷ [])) (sym same) here
    | inr other ↦ get_or-set_other marks j i true false other ∙ are.each i within ∙ sym (member_other i j taken other)
  ];
}

-- the predecessors that are marked are taken
pub released_taken : (i : Planned) (marks : List Bool) (taken : List ℕ) (j : ℕ) → IsSound i.project.network →
    AreMarksOf (count_of i.project.network) marks taken → 1 ≤ j → IsReleased i.project.network marks j →
    All (λ a. a.to ≡ j - 1 → is_member a.from taken ≡ true) (problem_of i).links
released_taken i marks taken j sound are low released = links_from i (λ a. a.to ≡ j - 1 → is_member a.from taken ≡ true) (λ a b arc to.
    let ends = arc_ends i.project.network a b sound.limits arc in
    let same : b ≡ j = omega (arith, to, ends.1, low) in
    let marked : get_or marks (a - 1) false ≡ true = released a (subst (λ (x : ℕ). IsArc i.project.network a x) same arc) in
    sym (are.each (a - 1) (omega (arith, ends.0))) ∙ marked)

-- and those that are taken are marked
pub taken_released : (i : Planned) (marks : List Bool) (taken : List ℕ) (j : ℕ) → IsSound i.project.network →
    AreMarksOf (count_of i.project.network) marks taken →
    All (λ a. a.to ≡ j - 1 → is_member a.from taken ≡ true) (problem_of i).links →
    IsReleased i.project.network marks j
taken_released i marks taken j sound are all a arc =
    let ends = arc_ends i.project.network a j sound.limits arc in
    let has : is_member (a - 1) taken ≡ true = link_at i (λ b. b.to ≡ j - 1 → is_member b.from taken ≡ true) all a j arc refl in
    are.each (a - 1) (omega (arith, ends.0)) ∙ has

-- an activity that may come by the marks is eligible by the list
pub can_come_eligible : (i : Planned) (marks : List Bool) (taken : List ℕ) (j : ℕ) →
    IsSound i.project.network → AreMarksOf (count_of i.project.network) marks taken →
    CanCome i.project.network marks j → (j - 1 < count (problem_of i))
    × (is_eligible (problem_of i) taken (j - 1) ≡ true)
can_come_eligible i marks taken j sound are (activity, open_now, released) = (
  omega (arith, activity, count-problem i),
  eligible_from (problem_of i) taken (j - 1)
      (sym (are.each (j - 1) (omega (arith, activity))) ∙ open_now)
      (released_taken i marks taken j sound are activity.0 released),
)

-- and the reverse
pub eligible_can_come : (i : Planned) (marks : List Bool) (taken : List ℕ) (j : ℕ) →
    IsSound i.project.network → AreMarksOf (count_of i.project.network) marks taken → 1 ≤ j →
    j - 1 < count (problem_of i) → is_eligible (problem_of i) taken (j - 1) ≡ true →
    CanCome i.project.network marks j
eligible_can_come i marks taken j sound are low inside eligible =
    let within : j - 1 < count_of i.project.network = omega (arith, inside, count-problem i) in (
      (low, omega (arith, low, within)),
      are.each (j - 1) within
          ∙ eligible_not (problem_of i) taken (j - 1) eligible,
      taken_released i marks taken j sound are
          (eligible_preds (problem_of i) taken (j - 1) eligible),
    )

-- the index of the first occurrence of a number in a list
pub place_of : List ℕ → ℕ → ℕ
place_of [] j = 0
place_of (x ∷ xs) j = cond (nat_eq x j) 0 (suc (place_of xs j))

place_of-found : (xs : List ℕ) (j k : ℕ) → k < length xs → get_or xs k 0 ≡ j → (place_of xs j ≤ k) × (get_or xs (place_of xs j) 0 ≡ j)
unfolding place_of
place_of-found [] j k within is = absurd (omega (arith, within))
place_of-found (x ∷ xs) j zero within is =
    let first : cond (nat_eq x j) 0 (suc (place_of xs j)) ≡ 0 = cond-true (nat_eq x j) 0 (suc (place_of xs j)) (eq-eqb x j is) in
    (omega (arith, first), subst (λ (m : ℕ). get_or (x ∷ xs) m 0 ≡ j) (sym first) is)
place_of-found (x ∷ xs) j (suc k) within is = elim (cases_Bool (nat_eq x j)) [
  | inl here ↦
      let first : cond (nat_eq x j) 0 (suc (place_of xs j)) ≡ 0 = cond-true (nat_eq x j) 0 (suc (place_of xs j)) here in
      (omega (arith, first), subst (λ (m : ℕ). get_or (x ∷ xs) m 0 ≡ j) (sym first) (eqb-true x j here))
  | inr other ↦
      let later : cond (nat_eq x j) 0 (suc (place_of xs j)) ≡ suc (place_of xs j) = cond-false (nat_eq x j) 0 (suc (place_of xs j)) other in
      let rest = place_of-found xs j k (omega (arith, within)) is in
      (omega (arith, later, rest.0), subst (λ (m : ℕ). get_or (x ∷ xs) m 0 ≡ j) (sym later) rest.1)
]

-- the order of a network ranks the activities along the links
abbrev pub rank_in : List ℕ → ℕ → ℕ
rank_in order h = place_of order (h + 1)

pub order_ranks : (i : Planned) (order : List ℕ) → IsSound i.project.network → IsLeastOrder i.project.network order → IsTopological i.project.network order → IsRanked (problem_of i) (rank_in order)
order_ranks i order sound least topological = links_from i (λ a. rank_in order a.from < rank_in order a.to) (λ a b arc.
    let ends = arc_ends i.project.network a b sound.limits arc in
    let to = place_in order b (least.each b ends.1) in
    let there = place_of-found order b to.0 to.1 to.2 in
    let arc' : IsArc i.project.network a (get_or order (place_of order b) 0) = subst (λ (x : ℕ). IsArc i.project.network a x) (sym there.1) arc in
    let before = topological (place_of order b) a (omega (arith, there.0, to.1)) arc' in
    let from = place_in (take (place_of order b) order) a before in
    let long : length (take (place_of order b) order) ≡ place_of order b = length-take-le (place_of order b) order (omega (arith, there.0, to.1)) in
    let early : from.0 < place_of order b = omega (arith, from.1, long) in
    let here = place_of-found order a from.0 (omega (arith, early, there.0, to.1)) (sym (get_or-take (place_of order b) order from.0 0 early) ∙ from.2) in
    let from_number : a - 1 + 1 ≡ a = omega (arith, ends.0) in
    let to_number : b - 1 + 1 ≡ b = omega (arith, ends.1) in
    omega (arith, here.0, early, ap (place_of order) from_number, ap (place_of order) to_number))
