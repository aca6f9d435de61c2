-- Activities that paths reach: joined paths, and one more successor.
use Rattle.std.proofs.Common.{ℕ, suc, zero, Bool, true, false, ◌≡◌, ◌≢◌, ◌+◌, ◌-◌, ◌≤◌, ◌<◌, ◌↔◌, ◌⊎◌, inl, inr, List, [], ◌∷◌, ◌++◌, length, get_or, set, replicate, refl, sym, ◌∙◌, ap, subst, arith, get_or-set_same, get_or-set_other, below_more}
use Rattle.std.proofs.lemmas.List.{length-append, length-replicate, get_or_append_left, get_or_push}
use Rattle.std.proofs.lemmas.Bool.{cases_eq, false≢true}
use Rattle.plan_net.specs.Network.{Net, count_of, IsActivity, IsArc}
use Rattle.plan_net.specs.Path.{IsWalk, last_of}
use Rattle.plan_net.specs.Limits.{IsWithinLimits, IsSound}
use Rattle.plan_net.specs.Placed.{IsPlaced}
use Rattle.plan_net.proofs.PathLemmas.{last_of-append, IsWalk-append}
use Rattle.plan_net.proofs.RowLemmas.{arc_ends}
use Rattle.plan_net.proofs.RisingLemmas.{ListsRising-same}
use Rattle.plan_cpm.specs.Successors.{IsTotalSuccessor, IsCountOf}
use Rattle.plan_cpm.specs.Reached.{Leads, IsReach, IsReachSoFar}
use Rattle.plan_cpm.proofs.DateLemmas.{last_activity}

-- paths reach activities
pub led_to : (net : Net) (j k : ℕ) → IsWithinLimits net → Leads net j k → IsActivity net k
led_to net j k limits (others, path, some, ends) = subst (IsActivity net) ends (last_activity net j others limits path.0 path.1)

-- an arc reaches its end
pub arc_leads : (net : Net) (j k : ℕ) → IsActivity net j → IsArc net j k → Leads net j k
arc_leads net j k activity arc = (k ∷ [], (activity, (arc, tt)), omega arith, refl)

-- paths can be joined: if j leads to k and k to h, then j leads to h
pub leads_on : (net : Net) (j k h : ℕ) → Leads net j k → Leads net k h → Leads net j h
leads_on net j k h (first, path, some, ends) (second, path', some', ends') =
    let on : IsWalk net (last_of j first) second = subst (λ (x : ℕ). IsWalk net x second) (sym ends) path'.1 in
    (first ++ second, (path.0, IsWalk-append net j first second path.1 on), omega (arith, length-append first second), last_of-append j first second ∙ (ap (λ (x : ℕ). last_of x second) ends ∙ ends'))

-- a path passes through a successor
pub leads_via : (net : Net) (j h : ℕ) → IsWithinLimits net → Leads net j h → (k : ℕ) × IsArc net j k × ((k ≡ h) ⊎ Leads net k h)
leads_via net j h limits ([], path, some, ends) = absurd (omega arith)
leads_via net j h limits (k ∷ [], path, some, ends) = (k, path.1.0, inl ends)
leads_via net j h limits (k ∷ g ∷ others, path, some, ends) = (k, path.1.0, inr (g ∷ others, ((arc_ends net j k limits path.1.0).1, path.1.1), omega arith, ends))

-- a successor and all activities that paths from it reach are marked
pub IsReachSoFar-add : (net : Net) (j k : ℕ) (row other after : List Bool) → IsWithinLimits net →
    IsActivity net j → IsArc net j k → IsReachSoFar net j row → IsReach net k other →
    length after ≡ length row → ((i : ℕ) → get_or (set row (k - 1) true) i false ≡ true →
    get_or after i false ≡ true) → ((i : ℕ) → get_or other i false ≡ true → get_or after i false ≡ true) →
    ((i : ℕ) → get_or after i false ≡ true → (get_or (set row (k - 1) true) i false ≡ true)
    ⊎ (get_or other i false ≡ true)) → IsReachSoFar net j after
IsReachSoFar-add net j k row other after limits activity arc far reach same kept added alone = record {
  whole = same ∙ far.whole;
  led = λ h there marked. led h there (source h there (alone (h - 1) marked));
  closed = λ x h there marked leads. closed x h there leads (source x there (alone (x - 1) marked));
} where
  end : IsActivity net k
  end = (arc_ends net j k limits arc).1

  -- a marked activity is the successor, was marked before, or is reached from the successor
  source : (h : ℕ) → IsActivity net h → (get_or (set row (k - 1) true) (h - 1) false ≡ true) ⊎ (get_or other (h - 1) false ≡ true) → (h ≡ k) ⊎ (IsPlaced row h ⊎ Leads net k h)
  source h there (inr marked) = inr (inr ((reach.exact h there).0 marked))
  source h there (inl marked) = by_case (cases_eq h k) where
    by_case : (h ≡ k) ⊎ (h ≡ k → ⊥) → (h ≡ k) ⊎ (IsPlaced row h ⊎ Leads net k h)
    by_case (inl equal) = inl equal
    by_case (inr different) =
        let apart : h - 1 ≢ k - 1 = λ e. different (omega (arith, e, there, end)) in
        inr (inl (sym (get_or-set_other row (k - 1) (h - 1) true false apart) ∙ marked))

  led : (h : ℕ) → IsActivity net h → (h ≡ k) ⊎ (IsPlaced row h ⊎ Leads net k h) → Leads net j h
  led h there (inl equal) = subst (Leads net j) (sym equal) (arc_leads net j k activity arc)
  led h there (inr (inl before)) = far.led h there before
  led h there (inr (inr leads)) = leads_on net j k h (arc_leads net j k activity arc) leads

  -- the activities that paths from the successor reach are marked
  from_successor : (h : ℕ) → Leads net k h → IsPlaced after h
  from_successor h leads = added (h - 1) ((reach.exact h (led_to net k h limits leads)).1 leads)

  -- the marks that were set remain set
  still : (h : ℕ) → IsPlaced row h → IsPlaced after h
  still h before = by_case (cases_eq (h - 1) (k - 1)) where
    by_case : (h - 1 ≡ k - 1) ⊎ (h - 1 ≡ k - 1 → ⊥) → IsPlaced after h
    by_case (inr apart) = kept (h - 1) (get_or-set_other row (k - 1) (h - 1) true false apart ∙ before)
    by_case (inl equal) =
        let within : k - 1 < length row = omega (arith, end, far.whole) in
        kept (h - 1) (subst (λ (i : ℕ). get_or (set row (k - 1) true) i false ≡ true) (sym equal) (get_or-set_same row (k - 1) true false within))

  closed : (x h : ℕ) → IsActivity net x → Leads net x h → (x ≡ k) ⊎ (IsPlaced row x ⊎ Leads net k x) → IsPlaced after h
  closed x h there leads (inl equal) = from_successor h (subst (λ (y : ℕ). Leads net y h) equal leads)
  closed x h there leads (inr (inl before)) = still h (far.closed x h there before leads)
  closed x h there leads (inr (inr before)) = from_successor h (leads_on net k x h before leads)

-- if each successor is taken into account, the marks are correct
pub IsReach-from_successors : (net : Net) (j : ℕ) (row : List Bool) → IsWithinLimits net → IsReachSoFar net j row → ((k : ℕ) → IsArc net j k → IsPlaced row k) → IsReach net j row
IsReach-from_successors net j row limits far met = record { whole = far.whole; exact = λ h there. (far.led h there, λ leads. marked h (leads_via net j h limits leads)) } where
  marked : (h : ℕ) → (k : ℕ) × IsArc net j k × ((k ≡ h) ⊎ Leads net k h) → IsPlaced row h
  marked h (k, arc, inl equal) = subst (IsPlaced row) equal (met k arc)
  marked h (k, arc, inr leads) = far.closed k h (arc_ends net j k limits arc).1 (met k arc) leads

-- the number of marks that are set is that of the total successors
pub IsCountOf-reach : (net : Net) (j : ℕ) (row : List Bool) (count : ℕ) → IsSound net → IsActivity net j →
    IsReach net j row → IsCountOf (λ k. (1 ≤ k) × (k ≤ length row) × IsPlaced row k) count →
    IsCountOf (IsTotalSuccessor net j) count
IsCountOf-reach net j row count sound activity reach counted = record {
  members = counted.members;
  lists = ListsRising-same (λ k. (1 ≤ k) × (k ≤ length row) × IsPlaced row k) (IsTotalSuccessor net j) counted.members same counted.lists;
  long = counted.long;
} where
  after : (k : ℕ) → Leads net j k → IsTotalSuccessor net j k
  after k (others, path, some, ends) = ((λ equal. sound.acyclic j others (path, some, ends ∙ equal)), (others, path, ends))

  leads : (k : ℕ) → IsTotalSuccessor net j k → Leads net j k
  leads k (different, ([], path, ends)) = absurd (different (sym ends))
  leads k (different, (h ∷ others, path, ends)) = (h ∷ others, path, omega arith, ends)

  same : (k : ℕ) → ((1 ≤ k) × (k ≤ length row) × IsPlaced row k) ↔ IsTotalSuccessor net j k
  same k = (
    (λ here. after k ((reach.exact k (here.0, omega (arith, here.1, reach.whole))).0 here.2)),
    (λ total. let there : IsActivity net k = led_to net j k sound.limits (leads k total) in (there.0, omega (arith, there.1, reach.whole), (reach.exact k there).1 (leads k total))),
  )

-- a mark that is set leaves all others set
pub set_keeps : (row : List Bool) (k : ℕ) → k < length row → (i : ℕ) → get_or row i false ≡ true → get_or (set row k true) i false ≡ true
set_keeps row k within i marked = by_case (cases_eq i k) where
  by_case : (i ≡ k) ⊎ (i ≡ k → ⊥) → get_or (set row k true) i false ≡ true
  by_case (inl equal) = subst (λ (x : ℕ). get_or (set row k true) x false ≡ true) (sym equal) (get_or-set_same row k true false within)
  by_case (inr apart) = get_or-set_other row k i true false apart ∙ marked

-- one more number is appended to the list
pub IsCountOf-push : (net : Net) (list : List ℕ) (k value : ℕ) → length list ≡ k →
    IsCountOf (IsTotalSuccessor net (k + 1)) value →
    ((i : ℕ) → i < k → IsCountOf (IsTotalSuccessor net (i + 1)) (get_or list i 0)) → (i : ℕ) → i < k + 1 →
    IsCountOf (IsTotalSuccessor net (i + 1)) (get_or (list ++ value ∷ []) i 0)
IsCountOf-push net list k value whole here before =
    below_more (λ i. IsCountOf (IsTotalSuccessor net (i + 1)) (get_or (list ++ value ∷ []) i 0)) k earlier
    (subst (IsCountOf (IsTotalSuccessor net (k + 1))) (sym (get_or_push list value 0 k whole)) here) where
      earlier : (i : ℕ) → i < k → IsCountOf (IsTotalSuccessor net (i + 1)) (get_or (list ++ value ∷ []) i 0)
      earlier i lower = subst (IsCountOf (IsTotalSuccessor net (i + 1))) (sym (get_or_append_left list (value ∷ []) 0 i (omega arith))) (before i lower)
