-- The entries of a list are placed one after another.
use Rattle.std.proofs.Common.{ℕ, true, ◌≡◌, ◌+◌, ◌-◌, ◌≤◌, ◌<◌, List, [], ◌∷◌, ◌++◌, length, get_or, set, take, drop, Option, Some, None, refl, sym, ◌∙◌, ap, subst, arith}
use Rattle.std.proofs.lemmas.List.{length-set, length-map, length-replicate, get_or-map, length-take-le, drop_more, drop_all, take_more, take_all}
use Rattle.std.proofs.lemmas.Option.{none-some}
use Rattle.plan_sgs.specs.Problem.{Problem, count, duration}
use Rattle.plan_sgs.specs.Serial.{earliest, unplaced, serial_from}
use Rattle.plan_sgs.specs.Rules.{places, is_eligible, takes_in_turn, is_activity_list}
use Rattle.plan_sgs.specs.Placement.{EndsBy}
use Rattle.plan_sgs.proofs.Bounds.{IsBounded, bound_of}
use Rattle.plan_sgs.proofs.SerialLemmas.{TakenIs, taken_set, taken_open, taken_first, turn_parts, eligible_not, list_parts, unplaced_at}
use Rattle.plan_sgs.proofs.StepLemmas.{ends_set, bound_more, bound_within}

-- the first i entries of a list are placed, and the others lead to the whole schedule
pub record IsRun (p : Problem) (js : List ℕ) (i : ℕ) (placed : List (Option ℕ)) : Type 0 where
  pub turns : takes_in_turn p (take i js) (drop i js) ≡ true
  pub rest : serial_from p placed (drop i js) ≡ serial_from p (unplaced (count p)) js
  pub size : length placed ≡ count p
  pub taken : TakenIs placed (take i js)
  pub ends : EndsBy p placed (bound_of p (take i js))

pub run_starts : (p : Problem) (js : List ℕ) (placed : List (Option ℕ)) → is_activity_list p js ≡ true → placed ≡ unplaced (count p) → IsRun p js 0 placed
run_starts p js placed list none = subst (IsRun p js 0) (sym none) (record {
  turns = (list_parts p js list).1;
  rest = refl;
  size = length-replicate (count p) None;
  taken = taken_first (count p);
  ends = λ i s is. absurd (none-some s (sym (unplaced_at (count p) i) ∙ is));
})

-- facts for the next entry
pub record IsOpenFor (p : Problem) (placed : List (Option ℕ)) (j : ℕ) : Type 0 where
  pub inside : j < count p
  pub none : get_or placed j None ≡ None
  pub ends : EndsBy p placed 6020000

turn_here : (p : Problem) (js : List ℕ) (i : ℕ) → takes_in_turn p (take i js) (drop i js) ≡ true → i < length js
    → (get_or js i 0 < count p) × (is_eligible p (take i js) (get_or js i 0) ≡ true) × (takes_in_turn p (take i js ++ get_or js i 0 ∷ []) (drop (i + 1) js) ≡ true)
turn_here p js i turns within = turn_parts p (take i js) (get_or js i 0) (drop (i + 1) js) (subst (λ (xs : List ℕ). takes_in_turn p (take i js) xs ≡ true) (drop_more js i 0 within) turns)

pub run_open : (p : Problem) (js : List ℕ) (i : ℕ) (placed : List (Option ℕ)) → IsBounded p → length js ≡ count p → IsRun p js i placed → i < length js → IsOpenFor p placed (get_or js i 0)
run_open p js i placed bounded size run within =
    let turn = turn_here p js i run.turns within in
    let limit : bound_of p (take i js) ≤ 6020000 = bound_within p (take i js) bounded (omega (arith, size, within, length-take-le i js (omega (arith, within)))) in
    record {
      inside = turn.0;
      none = taken_open placed (take i js) (get_or js i 0) run.taken (eligible_not p (take i js) (get_or js i 0) turn.1);
      ends = λ h s is. omega (arith, limit, run.ends h s is);
    }

pub run_more : (p : Problem) (js : List ℕ) (i : ℕ) (placed : List (Option ℕ)) → IsBounded p →
    IsRun p js i placed → i < length js → IsRun p js (i + 1)
    (set placed (get_or js i 0) (Some (earliest p placed (get_or js i 0))))
run_more p js i placed bounded run within = record {
  turns = subst (λ (xs : List ℕ). takes_in_turn p xs (drop (i + 1) js) ≡ true) (sym longer) turn.2;
  rest = sym (ap (serial_from p placed) (drop_more js i 0 within)) ∙ run.rest;
  size = length-set placed (get_or js i 0) (Some (earliest p placed (get_or js i 0))) ∙ run.size;
  taken = subst (TakenIs (set placed (get_or js i 0) (Some (earliest p placed (get_or js i 0))))) (sym longer)
      (taken_set placed (take i js) (get_or js i 0) (earliest p placed (get_or js i 0))
      (omega (arith, run.size, turn.0)) run.taken);
  ends = λ h s is.
      let new = eligible_not p (take i js) (get_or js i 0) turn.1 in
      let limit : s + duration p h ≤ bound_of p (take i js) + 10000 + duration p (get_or js i 0) = ends_set p placed (get_or js i 0) (bound_of p (take i js)) bounded run.size turn.0 run.ends h s is in
      let same : bound_of p (take (i + 1) js) ≡ bound_of p (take i js ++ get_or js i 0 ∷ []) = ap (bound_of p) longer in
      omega (arith, limit, same, bound_more p (take i js) (get_or js i 0) turn.0 new);
} where
  turn : (get_or js i 0 < count p) × (is_eligible p (take i js) (get_or js i 0) ≡ true) × (takes_in_turn p (take i js ++ get_or js i 0 ∷ []) (drop (i + 1) js) ≡ true)
  turn = turn_here p js i run.turns within

  longer : take (i + 1) js ≡ take i js ++ get_or js i 0 ∷ []
  longer = take_more js i 0 within

-- the whole list is placed
pub run_ends : (p : Problem) (js : List ℕ) (i : ℕ) (placed : List (Option ℕ)) → IsBounded p →
    length js ≡ count p → IsRun p js i placed → length js ≤ i →
    (placed ≡ serial_from p (unplaced (count p)) js) × EndsBy p placed 6020000
run_ends p js i placed bounded size run all =
    let same : take i js ≡ js = take_all i js all in
    let limit : bound_of p (take i js) ≤ 6020000 = bound_within p (take i js) bounded (omega (arith, size, ap (λ (xs : List ℕ). length xs) same)) in
    (sym (ap (serial_from p placed) (drop_all i js all)) ∙ run.rest, λ h s is. omega (arith, limit, run.ends h s is))

-- the place of an entry
pub entry_place : (list : List ℕ) (k : ℕ) → k < length list → get_or (places list) k 0 ≡ get_or list k 0 - 1
entry_place list k within = get_or-map (λ (j : ℕ). j - 1) list k 0 0 within

pub length-places : (list : List ℕ) → length (places list) ≡ length list
length-places list = length-map list (λ (j : ℕ). j - 1)
