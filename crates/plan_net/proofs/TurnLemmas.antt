-- The search for an order: one step, and the state at its end.
use Rattle.std.proofs.Common.{ℕ, suc, zero, Bool, true, false, ◌≡◌, ◌≢◌, ◌+◌, ◌-◌, ◌≤◌, ◌<◌, ◌↔◌, ◌⊎◌, inl, inr, List, [], ◌∷◌, ◌++◌, length, take, get_or, set, replicate, refl, sym, ◌∙◌, subst, arith, get_or-set_same, get_or-set_other}
use Rattle.std.specs.List.{Contains}
use Rattle.std.proofs.lemmas.List.{length-set, length_push, length-replicate, get_or_append_left, get_or_push, get_or-replicate, take-append-le, take_all}
use Rattle.std.proofs.lemmas.List.Elements.{Contains-push, Contains-push_cases, Contains-append_left}
use Rattle.std.proofs.lemmas.Bool.{cases_eq, cases_lt, cases_Bool, false≢true}
use Rattle.plan_net.specs.Network.{Net, count_of, IsActivity, IsArc, IsLeast, ListsRising}
use Rattle.plan_net.specs.Order.{CanCome}
use Rattle.plan_net.specs.Limits.{IsWithinLimits}
use Rattle.plan_net.specs.Placed.{IsPlaced, IsOpen, IsReady, open_count, IsPlacedOrder, IsStuckBelow, IsStuckBelowBut}
use Rattle.plan_net.proofs.RowLemmas.{arc_ends}
use Rattle.plan_net.proofs.RisingLemmas.{place_in, rising_at_most}

-- marks of which none is set
pub open_count-replicate : (n : ℕ) → open_count (replicate n false) ≡ n
open_count-replicate zero = refl
open_count-replicate (suc n) = omega (arith, open_count-replicate n)

-- one more mark is set
pub open_count-set : (marks : List Bool) (i : ℕ) → i < length marks → get_or marks i false ≡ false → open_count (set marks i true) + 1 ≡ open_count marks
open_count-set [] i within is = absurd (omega arith)
open_count-set (true ∷ marks) zero within is = absurd (false≢true (sym is))
open_count-set (false ∷ marks) zero within is = omega arith
open_count-set (true ∷ marks) (suc i) within is = open_count-set marks i (omega arith) is
open_count-set (false ∷ marks) (suc i) within is = omega (arith, open_count-set marks i (omega arith) is)

-- if no mark is left to set, each is set
pub none_open : (marks : List Bool) → open_count marks ≡ 0 → (i : ℕ) → i < length marks → get_or marks i false ≡ true
none_open [] none i within = absurd (omega arith)
none_open (true ∷ marks) none zero within = refl
none_open (true ∷ marks) none (suc i) within = none_open marks none i (omega arith)
none_open (false ∷ marks) none i within = absurd (omega arith)

-- if each mark is set, none is left
pub all_set : (marks : List Bool) → ((i : ℕ) → i < length marks → get_or marks i false ≡ true) → open_count marks ≡ 0
all_set [] each = refl
all_set (true ∷ marks) each = all_set marks (λ i within. each (suc i) (omega arith))
all_set (false ∷ marks) each = absurd (false≢true (each 0 (omega arith)))

-- no activity is placed at the beginning
pub IsPlacedOrder-nil : (net : Net) (n : ℕ) → n ≡ count_of net → IsPlacedOrder net [] (replicate n false)
IsPlacedOrder-nil net n whole = record {
  whole = length-replicate n false ∙ whole;
  counted = omega (arith, open_count-replicate n);
  inside = λ k within. absurd (omega arith);
  marks = λ j activity. (λ set'. absurd (false≢true (sym (get_or-replicate n (j - 1) false false (omega arith)) ∙ set')), λ has. absurd (empty has.1));
  least = λ k within. absurd (omega arith);
} where
  empty : {k : ℕ} → k < 0 → ⊥
  empty lower = omega arith

-- an activity that isn't marked isn't in the order
not_yet : (net : Net) (order : List ℕ) (placed : List Bool) → IsPlacedOrder net order placed → (j : ℕ) → IsActivity net j → IsOpen placed j → Contains order j → ⊥
not_yet net order placed turns j activity is_open has = false≢true (sym is_open ∙ (turns.marks j activity).1 has)

-- an activity that isn't in the order isn't marked
still_open : (net : Net) (order : List ℕ) (placed : List Bool) → IsPlacedOrder net order placed → (j : ℕ) → IsActivity net j → (Contains order j → ⊥) → IsOpen placed j
still_open net order placed turns j activity misses = by_case (cases_Bool (get_or placed (j - 1) false)) where
  by_case : (get_or placed (j - 1) false ≡ true) ⊎ (get_or placed (j - 1) false ≡ false) → IsOpen placed j
  by_case (inl is) = absurd (misses ((turns.marks j activity).0 is))
  by_case (inr is) = is

-- by the marks an activity is ready exactly if by the order it can come
pub ready_comes : (net : Net) (order : List ℕ) (placed : List Bool) → IsWithinLimits net → IsPlacedOrder net order placed → (j : ℕ) → IsReady net placed j → CanCome net order j
ready_comes net order placed limits turns j (activity, is_open, before) =
    (activity, not_yet net order placed turns j activity is_open, λ i arc. (turns.marks i (arc_ends net i j limits arc).0).0 (before i arc))

pub comes_ready : (net : Net) (order : List ℕ) (placed : List Bool) → IsWithinLimits net → IsPlacedOrder net order placed → (j : ℕ) → CanCome net order j → IsReady net placed j
comes_ready net order placed limits turns j (activity, misses, before) =
    (activity, still_open net order placed turns j activity misses, λ i arc. (turns.marks i (arc_ends net i j limits arc).0).1 (before i arc))

-- one more activity is marked and appended to the list
pub marks_push : (net : Net) (list : List ℕ) (marks : List Bool) (j : ℕ) → IsActivity net j →
    j - 1 < length marks → ((h : ℕ) → IsActivity net h → IsPlaced marks h ↔ Contains list h) → (h : ℕ) →
    IsActivity net h → IsPlaced (set marks (j - 1) true) h ↔ Contains (list ++ j ∷ []) h
marks_push net list marks j activity within are h activity' = by_case (cases_eq h j) where
  by_case : (h ≡ j) ⊎ (h ≡ j → ⊥) → IsPlaced (set marks (j - 1) true) h ↔ Contains (list ++ j ∷ []) h
  by_case (inl same) =
      subst (λ (x : ℕ). IsPlaced (set marks (j - 1) true) x ↔ Contains (list ++ j ∷ []) x) (sym same)
      ((λ _. Contains-push list j), (λ _. get_or-set_same marks (j - 1) true false within))
  by_case (inr other) = (λ is. Contains-append_left list (j ∷ []) h ((are h activity').0 (sym kept ∙ is)), λ has. from (Contains-push_cases list j h has)) where
    apart : h - 1 ≢ j - 1
    apart same = other (omega (arith, same, activity', activity))

    kept : get_or (set marks (j - 1) true) (h - 1) false ≡ get_or marks (h - 1) false
    kept = get_or-set_other marks (j - 1) (h - 1) true false apart

    from : Contains list h ⊎ (j ≡ h) → IsPlaced (set marks (j - 1) true) h
    from (inl has) = kept ∙ (are h activity').1 has
    from (inr same) = absurd (other (sym same))

-- a turn: the least ready activity is placed
pub IsPlacedOrder-push : (net : Net) (order : List ℕ) (placed : List Bool) (j : ℕ) → IsWithinLimits net →
    IsPlacedOrder net order placed → IsLeast (IsReady net placed) j →
    IsPlacedOrder net (order ++ j ∷ []) (set placed (j - 1) true)
IsPlacedOrder-push net order placed j limits turns ready = record {
  whole = length-set placed (j - 1) true ∙ turns.whole;
  counted = omega (arith, length_push order j, open_count-set placed (j - 1) within is_open, turns.counted);
  inside = λ k lower. inside k (cases_lt k (length order)) lower;
  marks = marks_push net order placed j activity within turns.marks;
  least = λ k lower. least k (cases_lt k (length order)) lower;
} where
  activity : IsActivity net j
  activity = ready.0.0

  is_open : IsOpen placed j
  is_open = ready.0.1

  within : j - 1 < length placed
  within = let whole : length placed ≡ count_of net = turns.whole in omega (arith, activity, whole)

  last : (k : ℕ) → length order ≤ k → k < length (order ++ j ∷ []) → length order ≡ k
  last k higher lower = omega (arith, length_push order j)

  inside : (k : ℕ) → (k < length order) ⊎ (length order ≤ k) → k < length (order ++ j ∷ []) → IsActivity net (get_or (order ++ j ∷ []) k 0)
  inside k (inl earlier) lower = subst (IsActivity net) (sym (get_or_append_left order (j ∷ []) 0 k earlier)) (turns.inside k earlier)
  inside k (inr higher) lower = subst (IsActivity net) (sym (get_or_push order j 0 k (last k higher lower))) activity

  least_now : IsLeast (CanCome net order) j
  least_now = (ready_comes net order placed limits turns j ready.0, λ v comes. ready.1 v (comes_ready net order placed limits turns v comes))

  least : (k : ℕ) → (k < length order) ⊎ (length order ≤ k) → k < length (order ++ j ∷ []) → IsLeast (CanCome net (take k (order ++ j ∷ []))) (get_or (order ++ j ∷ []) k 0)
  least k (inl earlier) lower =
      subst (λ (before : List ℕ). IsLeast (CanCome net before) (get_or (order ++ j ∷ []) k 0)) (sym (take-append-le k order (j ∷ []) (omega arith)))
      (subst (IsLeast (CanCome net (take k order))) (sym (get_or_append_left order (j ∷ []) 0 k earlier)) (turns.least k earlier))
  least k (inr higher) lower =
      subst (λ (before : List ℕ). IsLeast (CanCome net before) (get_or (order ++ j ∷ []) k 0)) (sym (take-append-le k order (j ∷ []) (omega (arith, last k higher lower)) ∙ take_all k order higher))
      (subst (IsLeast (CanCome net order)) (sym (get_or_push order j 0 k (last k higher lower))) least_now)

-- before the first turn
pub IsStuckBelow-first : (net : Net) (placed : List Bool) → IsStuckBelow net placed 1
IsStuckBelow-first net placed h activity lower is_open = absurd (omega (arith, activity, lower))

-- once j is placed, the open activities below it have an open predecessor or are its successors
pub IsStuckBelowBut-placed : (net : Net) (placed : List Bool) (j : ℕ) → IsWithinLimits net → IsActivity net j → IsStuckBelow net placed j → IsStuckBelowBut net (set placed (j - 1) true) j
IsStuckBelowBut-placed net placed j limits activity below h activity' lower is_open = by_case (cases_eq pred.0 j) where
  kept : (i : ℕ) → 1 ≤ i → i ≢ j → get_or (set placed (j - 1) true) (i - 1) false ≡ get_or placed (i - 1) false
  kept i low other = get_or-set_other placed (j - 1) (i - 1) true false (λ same. other (omega (arith, same, low, activity)))

  pred : (i : ℕ) × IsArc net i h × IsOpen placed i
  pred = below h activity' lower (sym (kept h activity'.0 (λ same. absurd (omega (arith, same, lower)))) ∙ is_open)

  by_case : (pred.0 ≡ j) ⊎ (pred.0 ≡ j → ⊥) → IsArc net j h ⊎ ((i : ℕ) × IsArc net i h × IsOpen (set placed (j - 1) true) i)
  by_case (inl same) = inl (subst (λ (i : ℕ). IsArc net i h) same pred.1)
  by_case (inr other) = inr (pred.0, pred.1, kept pred.0 (arc_ends net pred.0 h limits pred.1).0.0 other ∙ pred.2)

-- none can come up to an activity if the successors of j up to it have an open predecessor
IsStuckBelow-succs : (net : Net) (placed : List Bool) (j first : ℕ) (succs : List ℕ) → ListsRising (IsArc net j) succs → IsStuckBelowBut net placed j → first ≤ j
    → ((m : ℕ) → m < length succs → get_or succs m 0 < first → (i : ℕ) × IsArc net i (get_or succs m 0) × IsOpen placed i) → IsStuckBelow net placed first
IsStuckBelow-succs net placed j first succs listed below low held h activity lower is_open = by_case (below h activity (omega arith) is_open) where
  by_case : IsArc net j h ⊎ ((i : ℕ) × IsArc net i h × IsOpen placed i) → (i : ℕ) × IsArc net i h × IsOpen placed i
  by_case (inr pred) = pred
  by_case (inl arc) =
      let place = place_in succs h ((listed.exact h).1 arc) in
      let below' : get_or succs place.0 0 < first = omega (arith, place.2, lower) in
      subst (λ (k : ℕ). (i : ℕ) × IsArc net i k × IsOpen placed i) place.2 (held place.0 place.1 below')

-- up to one of them, if those before it have one
pub IsStuckBelow-at : (net : Net) (placed : List Bool) (j at : ℕ) (succs : List ℕ) → ListsRising (IsArc net j) succs → IsStuckBelowBut net placed j → at < length succs → get_or succs at 0 < j
    → ((m : ℕ) → m < at → get_or succs m 0 < j → (i : ℕ) × IsArc net i (get_or succs m 0) × IsOpen placed i) → IsStuckBelow net placed (get_or succs at 0)
IsStuckBelow-at net placed j at succs listed below within low held =
    IsStuckBelow-succs net placed j (get_or succs at 0) succs listed below (omega (arith, low))
    (λ m inside lower. before m inside lower (cases_lt m at)) where
      before : (m : ℕ) → m < length succs → get_or succs m 0 < get_or succs at 0 → (m < at) ⊎ (at ≤ m) → (i : ℕ) × IsArc net i (get_or succs m 0) × IsOpen placed i
      before m inside lower (inl earlier) = held m earlier (omega (arith, lower, low))
      before m inside lower (inr later) = let up : get_or succs at 0 ≤ get_or succs m 0 = rising_at_most succs listed.rising at m later inside in absurd (omega (arith, up, lower))

-- up to the one after j, if all below j have one
pub IsStuckBelow-behind : (net : Net) (placed : List Bool) (j : ℕ) (succs : List ℕ) → ListsRising (IsArc net j) succs → IsStuckBelowBut net placed j → IsPlaced placed j
    → ((m : ℕ) → m < length succs → get_or succs m 0 < j → (i : ℕ) × IsArc net i (get_or succs m 0) × IsOpen placed i) → IsStuckBelow net placed (j + 1)
IsStuckBelow-behind net placed j succs listed below marked held h activity lower is_open = by_case (cases_lt h j) where
  by_case : (h < j) ⊎ (j ≤ h) → (i : ℕ) × IsArc net i h × IsOpen placed i
  by_case (inl before) = IsStuckBelow-succs net placed j j succs listed below (omega arith) held h activity before is_open
  by_case (inr after) = let same : j ≡ h = omega arith in absurd (false≢true (sym is_open ∙ subst (IsPlaced placed) same marked))
