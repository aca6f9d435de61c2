-- Serial schedules against feasible lists, and the entries of a rule's list.
use Rattle.std.proofs.Common.{ℕ, zero, suc, true, ◌≡◌, ◌+◌, ◌≤◌, ◌<◌, inl, inr, List, [], ◌∷◌, ◌++◌, length, get_or, set, take, Option, Some, None, refl, sym, ◌∙◌, ap, subst, arith}
use Rattle.std.specs.List.{All, AllByRecursion}
use Rattle.std.proofs.lemmas.List.{append-nil, append_assoc}
use Rattle.std.proofs.lemmas.Bool.{cases_lt}
use Rattle.plan_sgs.specs.Problem.{Problem, count, duration, amount_of, makespan, IsFeasible, IsShortest, LinksInside, NeedsFit, IsRanked}
use Rattle.plan_sgs.specs.Serial.{earliest, unplaced, serial_from, serial}
use Rattle.plan_sgs.specs.Rules.{takes_in_turn, is_activity_list, IsActivityList, IsFirstBy, RisesBy, rule_list_from, rule_list}
use Rattle.plan_sgs.specs.Laws.{by_starts}
use Rattle.plan_sgs.proofs.TotalLemmas.{greatest_grows}
use Rattle.plan_sgs.proofs.AmountLemmas.{amount_during, amount_ended, earliest_is}
use Rattle.plan_sgs.proofs.PlacingLemmas.{IsPartial, IsReady, partial_set, set_cases, fits_beside, release_beside}
use Rattle.plan_sgs.proofs.SerialLemmas.{TakenIs, taken_open, taken_set, taken_first, turn_parts, eligible_not, ready_from, partial_first, list_parts, placed_by_serial, start_at, serial_active, taken_count, taken_none, taken_more, unplaced_at}
use Rattle.plan_sgs.proofs.ListLemmas.{told_by_places, told_by_entries}
use Rattle.plan_sgs.proofs.RuleLemmas.{IsFirstBelow, next_of, next_there, rule_list_is, rule_list_rises}
use Rattle.std.proofs.lemmas.Option.{none-some, same_Some}

-- an activity that starts earlier needs no more at an instant from its later start on
amount_left : (p : Problem) (t k i s r : ℕ) → s ≤ r → r ≤ t → amount_of p t k i (Some s) ≤ amount_of p t k i (Some r)
amount_left p t k i s r left late = elim (cases_lt t (s + duration p i)) [
  | inl runs ↦ omega (arith, amount_during p t k i s (omega (arith, left, late)) runs, amount_during p t k i r late (omega (arith, runs, left)))
  | inr ended ↦ omega (arith, amount_ended p t k i (Some s) (λ x is. omega (arith, same_Some s x is, ended)))
]

-- the next activity is placed no later than in a feasible list, if there each placed activity
-- starts no earlier than it was placed and no later than the next activity
earliest_left : (p : Problem) (starts : List ℕ) (placed : List (Option ℕ)) (j : ℕ) → NeedsFit p →
    IsFeasible p starts → length placed ≡ count p → j < count p → IsReady p placed j →
    get_or placed j None ≡ None
    → ((i s : ℕ) → get_or placed i None ≡ Some s → (s ≤ get_or starts i 0) × (get_or starts i 0 ≤ get_or starts j 0)) → earliest p placed j ≤ get_or starts j 0
earliest_left p starts placed j fit feasible size inside ready open_place left =
    (earliest_is p placed j fit inside).least (get_or starts j 0)
    (release_beside p placed starts j feasible.arcs ready (λ i s is. (left i s is).0))
    (fits_beside p placed starts j size feasible.each_started inside open_place feasible.capacities (λ i s t k is late.
    let here = left i s is in
    amount_left p t k i s (get_or starts i 0) here.0 (omega (arith, here.1, late))))

-- the same after each entry of a list in the order of the starts
left_after : (p : Problem) (starts : List ℕ) → NeedsFit p → IsFeasible p starts →
    (js taken : List ℕ) (placed : List (Option ℕ)) → IsPartial p placed → TakenIs placed taken →
    takes_in_turn p taken js ≡ true → RisesBy (λ i. get_or starts i 0) js
    → ((i s : ℕ) → get_or placed i None ≡ Some s →
    (s ≤ get_or starts i 0) × AllByRecursion (λ j. get_or starts i 0 ≤ get_or starts j 0) js) →
    (i s : ℕ) → get_or (serial_from p placed js) i None ≡ Some s → s ≤ get_or starts i 0
left_after p starts fit feasible [] taken placed partial is turns rises left i s at = (left i s at).0
left_after p starts fit feasible (j ∷ js) taken placed partial is turns rises left i s at =
    let turn = turn_parts p taken j js turns in
    let open_place : get_or placed j None ≡ None = taken_open placed taken j is (eligible_not p taken j turn.1) in
    let ready = ready_from p placed taken j is turn.1 in
    let within : j < length placed = omega (arith, turn.0, partial.size) in
    let low : earliest p placed j ≤ get_or starts j 0 =
    earliest_left p starts placed j fit feasible partial.size turn.0 ready open_place (λ h r there.
    let here = left h r there in (here.0, here.1.0)) in
    left_after p starts fit feasible js (taken ++ j ∷ []) (set placed j (Some (earliest p placed j)))
    (partial_set p placed j fit partial turn.0 open_place ready)
    (taken_set placed taken j (earliest p placed j) within is) turn.2 rises.1
    (λ h r there. elim (set_cases placed j (earliest p placed j) h r within there) [
      | inl here ↦ (omega (arith, low, here.1, ap (λ (x : ℕ). get_or starts x 0) here.0), subst (λ (x : ℕ). AllByRecursion (λ k. get_or starts x 0 ≤ get_or starts k 0) js) (sym here.0) rises.0)
      | inr before ↦ let old = left h r before.1 in (old.0, old.1.1)
    ]) i s at

-- if an order is sorted by the starts of a feasible list, its serial schedule starts nothing later
pub serial_no_later : (p : Problem) (starts js : List ℕ) → NeedsFit p → IsFeasible p starts →
    is_activity_list p js ≡ true → RisesBy (λ i. get_or starts i 0) js → (i : ℕ) → i < count p →
    get_or (serial p js) i 0 ≤ get_or starts i 0
unfolding serial
serial_no_later p starts js fit feasible list rises i inside =
    let whole = (placed_by_serial p js fit list).1 i inside in
    let low : whole.0 ≤ get_or starts i 0 = left_after p starts fit feasible js [] (unplaced (count p)) (partial_first p) (taken_first (count p)) (list_parts p js list).1 rises
    (λ h s is. absurd (none-some s (sym (unplaced_at (count p) h) ∙ is))) i whole.0 whole.1 in
    omega (arith, low, start_at (serial_from p (unplaced (count p)) js) i whole.0 whole.1)

-- the links don't lead to earlier starts of a feasible list
starts_level : (p : Problem) (starts : List ℕ) → IsFeasible p starts → All (λ a. get_or starts a.from 0 ≤ get_or starts a.to 0) p.links
starts_level p starts feasible k d within = omega (arith, feasible.arcs k d within)

pub by_starts_rises : (p : Problem) (rank : ℕ → ℕ) (starts : List ℕ) → LinksInside p → IsRanked p rank → IsFeasible p starts → RisesBy (λ i. get_or starts i 0) (by_starts p starts)
by_starts_rises p rank starts inside ranked feasible = rule_list_rises p rank (λ i. get_or starts i 0) inside ranked (starts_level p starts feasible)

-- some serial schedule is no longer than a feasible list
pub by_starts_least : (p : Problem) (rank : ℕ → ℕ) (starts : List ℕ) → LinksInside p → NeedsFit p →
    IsRanked p rank → IsFeasible p starts → makespan p (serial p (by_starts p starts)) ≤ makespan p starts
by_starts_least p rank starts inside fit ranked feasible =
    greatest_grows (count p) (λ i. get_or (serial p (by_starts p starts)) i 0 + duration p i) (λ i. get_or starts i 0 + duration p i) (λ i below.
    let low : get_or (serial p (by_starts p starts)) i 0 ≤ get_or starts i 0 =
    serial_no_later p starts (by_starts p starts) fit feasible
    (rule_list_is p rank (λ h. get_or starts h 0) inside ranked)
    (by_starts_rises p rank starts inside ranked feasible) i below in
    omega (arith, low))

-- a serial schedule of least makespan among serial schedules is shortest
pub least_shortest : (p : Problem) (rank : ℕ → ℕ) (js : List ℕ) → LinksInside p → NeedsFit p →
    IsRanked p rank → IsActivityList p js → ((other : List ℕ) → IsActivityList p other →
    makespan p (serial p js) ≤ makespan p (serial p other)) → IsShortest p (serial p js)
least_shortest p rank js inside fit ranked list least = record {
  feasible = (serial_active p js inside fit (told_by_entries p js inside list)).feasible;
  least = λ other feasible.
      let order : makespan p (serial p js) ≤ makespan p (serial p (by_starts p other)) =
      least (by_starts p other) (told_by_places p (by_starts p other)
      (rule_list_is p rank (λ h. get_or other h 0) inside ranked)) in
      omega (arith, order, by_starts_least p rank other inside fit ranked feasible);
}

-- each entry that a rule takes is the first of the eligible activities
first_by : (p : Problem) (key : ℕ → ℕ) (taken : List ℕ) (j : ℕ) → IsFirstBelow p key taken (count p) j → IsFirstBy p key taken j
first_by p key taken j first = record { inside = first.inside; eligible = first.eligible; first = first.first }

-- each entry of a list is the first of the eligible activities in its turn
abbrev pub TakesFirst : Problem → (ℕ → ℕ) → List ℕ → List ℕ → Type 0
TakesFirst p key taken [] = Unit {0}
TakesFirst p key taken (j ∷ js) = IsFirstBy p key taken j × TakesFirst p key (taken ++ j ∷ []) js

-- the entries that a rule takes after those already taken
takes_first : (p : Problem) (rank key : ℕ → ℕ) → LinksInside p → IsRanked p rank → (n : ℕ) (taken : List ℕ) →
    taken_count p taken + n ≡ count p → (js : List ℕ) × (rule_list_from p key taken n ≡ taken ++ js)
    × TakesFirst p key taken js × (length js ≡ n)
takes_first p rank key inside ranked zero taken counted = ([], sym (append-nil taken), tt, refl)
takes_first p rank key inside ranked (suc n) taken counted =
    let next = next_there p rank key taken inside ranked (omega (arith, counted)) in
    let one : taken_count p taken + 1 ≡ taken_count p (taken ++ next_of p key taken ∷ []) =
    taken_more p taken (next_of p key taken) next.first.inside
    (eligible_not p taken (next_of p key taken) next.first.eligible) in
    let rest = takes_first p rank key inside ranked n (taken ++ next_of p key taken ∷ []) (omega (arith, counted, one)) in
    (next_of p key taken ∷ rest.0, rest.1 ∙ append_assoc taken (next_of p key taken ∷ []) rest.0, (first_by p key taken (next_of p key taken) next.first, rest.2), omega (arith, rest.3))

entry_first : (p : Problem) (key : ℕ → ℕ) (js taken : List ℕ) (k : ℕ) → TakesFirst p key taken js → k < length js → IsFirstBy p key (taken ++ take k js) (get_or js k 0)
entry_first p key [] taken k first below = absurd (omega (arith, below))
entry_first p key (j ∷ js) taken zero first below = subst (λ (xs : List ℕ). IsFirstBy p key xs j) (sym (append-nil taken)) first.0
entry_first p key (j ∷ js) taken (suc k) first below =
    subst (λ (xs : List ℕ). IsFirstBy p key xs (get_or js k 0)) (append_assoc taken (j ∷ []) (take k js))
    (entry_first p key js (taken ++ j ∷ []) k first.1 (omega (arith, below)))

-- each entry of a rule's list is the first of the eligible activities in its turn
pub rule_entry_first : (p : Problem) (rank key : ℕ → ℕ) → LinksInside p → IsRanked p rank → (k : ℕ) → k < count p → IsFirstBy p key (take k (rule_list p key)) (get_or (rule_list p key) k 0)
unfolding rule_list
rule_entry_first p rank key inside ranked k below =
    let all = takes_first p rank key inside ranked (count p) [] (omega (arith, taken_none p)) in
    subst (λ (xs : List ℕ). IsFirstBy p key (take k xs) (get_or xs k 0)) (sym all.1) (entry_first p key all.0 [] k all.2 (omega (arith, below, all.3)))
