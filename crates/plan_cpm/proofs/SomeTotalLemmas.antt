-- A sound network has numbers of total successors, since the existence of a path is decidable.
use Rattle.std.proofs.Common.{ℕ, suc, zero, ◌≡◌, ◌+◌, ◌≤◌, ◌<◌, ◌⊎◌, inl, inr, List, [], ◌∷◌, ◌++◌, length, get_or, refl, sym, subst, arith}
use Rattle.std.specs.List.{Contains}
use Rattle.std.proofs.lemmas.Bool.{cases_eq}
use Rattle.plan_net.specs.Network.{Net, count_of, IsActivity, IsArc, ListsRising}
use Rattle.plan_net.specs.Order.{IsLeastOrder}
use Rattle.plan_net.specs.Limits.{IsWithinLimits, IsSound}
use Rattle.plan_net.proofs.RisingLemmas.{place_in, ListsRising-same, ListsRising-nil, ListsRising-skip, ListsRising-push}
use Rattle.plan_net.proofs.SearchLemmas.{Decided, decide_both, some_element}
use Rattle.plan_net.proofs.SomeOrderLemmas.{decide_arc, order_of_sound}
use Rattle.plan_cpm.specs.Successors.{IsTotalSuccessor, IsCountOf, AreTotals}
use Rattle.plan_cpm.specs.Reached.{Leads}
use Rattle.plan_cpm.proofs.PassLemmas.{succs_done}
use Rattle.plan_cpm.proofs.ReachLemmas.{led_to, arc_leads, leads_on, leads_via}
use Rattle.plan_cpm.proofs.SomeDateLemmas.{some_list, order_activities}

module _ (net : Net) (limits : IsWithinLimits net) (order : List ℕ) (least : IsLeastOrder net order) (h : ℕ) where
  -- a path from the activity at m exists or not, if this is decided for those after it
  leads_at : (m : ℕ) → m < length order → ((p : ℕ) → m + 1 ≤ p → p < length order → Decided (Leads net (get_or order p 0) h)) → Decided (Leads net (get_or order m 0) h)
  leads_at m inside behind =
      by_search (some_element (λ arc. IsArc net j arc.1 × ((arc.1 ≡ h) ⊎ Leads net arc.1 h))
      (λ arc. decide_both (IsArc net j arc.1) ((arc.1 ≡ h) ⊎ Leads net arc.1 h) (decide_arc net j arc.1)
      (λ there. from_successor arc.1 there)) net.arcs)
    where
      j : ℕ
      j = get_or order m 0

      from_successor : (k : ℕ) → IsArc net (get_or order m 0) k → Decided ((k ≡ h) ⊎ Leads net k h)
      from_successor k there = by_end (cases_eq k h) (succs_done (λ g. Decided (Leads net g h)) net order m limits least inside behind k there)
        where
          by_end : (k ≡ h) ⊎ (k ≡ h → ⊥) → Decided (Leads net k h) → Decided ((k ≡ h) ⊎ Leads net k h)
          by_end (inl same) onward = inl (inl same)
          by_end (inr other) (inl leads) = inl (inr leads)
          by_end (inr other) (inr none) = inr (λ either. elim either [ inl same ↦ other same | inr leads ↦ none leads ])

      via : (k : ℕ) → IsArc net (get_or order m 0) k → (k ≡ h) ⊎ Leads net k h → Leads net (get_or order m 0) h
      via k there (inl same) = subst (Leads net (get_or order m 0)) same (arc_leads net (get_or order m 0) k (order_activities net order least m inside) there)
      via k there (inr leads) = leads_on net (get_or order m 0) k h (arc_leads net (get_or order m 0) k (order_activities net order least m inside) there) leads

      by_search : ((arc : ℕ × ℕ) × Contains net.arcs arc × (IsArc net j arc.1 × ((arc.1 ≡ h) ⊎ Leads net arc.1 h)))
          ⊎ ((arc : ℕ × ℕ) → Contains net.arcs arc → IsArc net j arc.1 × ((arc.1 ≡ h) ⊎ Leads net arc.1 h) → ⊥) → Decided (Leads net (get_or order m 0) h)
      by_search (inl (arc, has, (there, onward))) = inl (via arc.1 there onward)
      by_search (inr none) = inr (λ leads.
          let step = leads_via net j h limits leads in
          none (j, step.0) step.1 (step.1, step.2))

  -- this is decided for the last n activities of the order
  leads_of_last : (n m : ℕ) → n + m ≡ length order → (p : ℕ) → m ≤ p → p < length order → Decided (Leads net (get_or order p 0) h)
  leads_of_last zero m all p lower within = absurd (omega (arith, all, lower, within))
  leads_of_last (suc n) m all p lower within = by_place (leads_of_last n (m + 1) (omega (arith, all))) (cases_eq m p)
    where
      by_place : ((q : ℕ) → m + 1 ≤ q → q < length order → Decided (Leads net (get_or order q 0) h)) → (m ≡ p) ⊎ (m ≡ p → ⊥) → Decided (Leads net (get_or order p 0) h)
      by_place behind (inl same) = subst (λ (q : ℕ). Decided (Leads net (get_or order q 0) h)) same (leads_at m (omega (arith, same, within)) behind)
      by_place behind (inr other) = behind p (omega (arith, lower, other)) within

  decide_leads : (j : ℕ) → IsActivity net j → Decided (Leads net j h)
  decide_leads j activity =
      let place = place_in order j (least.each j activity) in
      subst (λ (k : ℕ). Decided (Leads net k h)) place.2 (leads_of_last (length order) 0 (omega arith) place.0 (omega arith) place.1)

-- one activity is a total successor of another, or not
decide_total : (net : Net) (order : List ℕ) → IsWithinLimits net → IsLeastOrder net order → (j : ℕ) → IsActivity net j → (k : ℕ) → Decided (IsTotalSuccessor net j k)
decide_total net order limits least j activity k = by_parts (cases_eq k j) (decide_leads net limits order least k j activity)
  where
    leads : IsTotalSuccessor net j k → Leads net j k
    leads (different, ([], path, ends)) = absurd (different (sym ends))
    leads (different, (g ∷ others, path, ends)) = (g ∷ others, path, omega arith, ends)

    by_parts : (k ≡ j) ⊎ (k ≡ j → ⊥) → Decided (Leads net j k) → Decided (IsTotalSuccessor net j k)
    by_parts (inl same) led = inr (λ total. total.0 same)
    by_parts (inr other) (inl (others, path, some, ends)) = inl (other, (others, path, ends))
    by_parts (inr other) (inr none) = inr (λ total. none (leads total))

-- the numbers from 1 to n with Q, in rising order
pub some_rising : (Q : ℕ → Type 0) → ((k : ℕ) → Decided (Q k)) → (n : ℕ) → (list : List ℕ) × ListsRising (λ i. (1 ≤ i) × (i ≤ n) × Q i) list
some_rising Q decide zero = ([], ListsRising-nil Q)
some_rising Q decide (suc n) = by_last (some_rising Q decide n) (decide (n + 1))
  where
    same : n + 1 ≡ suc n
    same = omega arith

    by_last : (list : List ℕ) × ListsRising (λ i. (1 ≤ i) × (i ≤ n) × Q i) list → Decided (Q (n + 1)) → (list : List ℕ) × ListsRising (λ i. (1 ≤ i) × (i ≤ suc n) × Q i) list
    by_last (list, listed) (inl holds) = (
      list ++ (n + 1)
          ∷ [],
      subst (λ (most : ℕ). ListsRising (λ i. (1 ≤ i) × (i ≤ most) × Q i) (list ++ (n + 1) ∷ [])) same
          (ListsRising-push Q n list holds listed),
    )
    by_last (list, listed) (inr fails) = (list, subst (λ (most : ℕ). ListsRising (λ i. (1 ≤ i) × (i ≤ most) × Q i) list) same (ListsRising-skip Q n list fails listed))

-- a sound network has numbers of total successors
pub some_totals : (net : Net) → IsSound net → (list : List ℕ) × AreTotals net list
some_totals net sound = by_order (order_of_sound net sound)
  where
    by_order : (order : List ℕ) × IsLeastOrder net order → (list : List ℕ) × AreTotals net list
    by_order (order, least) =
        let listed = some_list (λ j v. IsCountOf (IsTotalSuccessor net j) v) (count_of net) (λ j low high. counted j (low, high)) in
        (listed.0, record { whole = listed.1; each = λ j activity. listed.2 j activity.0 activity.1 })
      where
        inside : (j k : ℕ) → IsTotalSuccessor net j k → IsActivity net k
        inside j k (different, ([], path, ends)) = absurd (different (sym ends))
        inside j k (different, (g ∷ others, path, ends)) = led_to net j k sound.limits (g ∷ others, path, omega arith, ends)

        counted : (j : ℕ) → IsActivity net j → (v : ℕ) × IsCountOf (IsTotalSuccessor net j) v
        counted j activity =
            let members = some_rising (IsTotalSuccessor net j) (decide_total net order sound.limits least j activity) (count_of net) in (
              length members.0,
              record {
                members = members.0;
                lists = ListsRising-same (λ i. (1 ≤ i) × (i ≤ count_of net) × IsTotalSuccessor net j i) (IsTotalSuccessor net j) members.0
                    (λ i. (λ there. there.2, λ total. ((inside j i total).0, (inside j i total).1, total))) members.1;
                long = refl;
              },
            )
