-- Serial schedules of activity lists are active.
use Rattle.std.proofs.Common.{ℕ, zero, suc, Bool, true, false, not, nat_eq, nat_lt, ◌&&◌, ◌||◌, ◌≡◌, ◌≢◌, ◌+◌, ◌≤◌, ◌<◌, inl, inr, List, [], ◌∷◌, ◌++◌, length, get_or, set, map, Option, Some, None, refl, sym, ◌∙◌, ap, subst, arith, get_or-set_same, get_or-set_other}
use Rattle.std.specs.List.{All, list_all}
use Rattle.std.specs.Option.{is_some}
use Rattle.std.proofs.lemmas.List.{append-nil, append_assoc, length-map, length-replicate, get_or-map, get_or_past, ext_get_or}
use Rattle.std.proofs.lemmas.List.Elements.{All-nil, All-cons, All-head, All-tail}
use Rattle.std.proofs.lemmas.List.Folds.{list_any-append}
use Rattle.std.proofs.lemmas.Bool.{cases_lt, cases_eq, both_ways, false≢true, and_parts, and_from, or_cases, or_left, or_right, or_from, not-true, not_from_false, eqb-true, eq-eqb, ne_eqb, ltb-true, lt-ltb}
use Rattle.std.proofs.lemmas.Option.{none-some}
use Rattle.plan_sgs.specs.Problem.{Problem, Link, count, total, all_placed, KeepsArcs, KeepsCapacities, IsFeasible, IsShift, IsActive, NeedsFit, LinksInside}
use Rattle.plan_sgs.specs.Serial.{earliest, unplaced, serial_from, start_or_zero, serial}
use Rattle.plan_sgs.specs.Rules.{is_member, is_eligible, takes_in_turn, is_activity_list}
use Rattle.plan_sgs.proofs.TotalLemmas.{total_none, total_changed, total_full}
use Rattle.plan_sgs.proofs.AmountLemmas.{usage_ended}
use Rattle.plan_sgs.proofs.PlacingLemmas.{IsPartial, IsReady, partial_set}

-- the result of a test of all links
all_pass : (f : Link → Bool) (links : List Link) → list_all f links ≡ true → All (λ a. f a ≡ true) links
all_pass f [] pass = All-nil (λ a. f a ≡ true)
all_pass f (a ∷ links) pass = let parts = and_parts (f a) (list_all f links) pass in All-cons (λ a. f a ≡ true) a links parts.0 (all_pass f links parts.1)

pass_all : (f : Link → Bool) (links : List Link) → All (λ a. f a ≡ true) links → list_all f links ≡ true
pass_all f [] all = refl
pass_all f (a ∷ links) all = and_from (f a) (list_all f links) (All-head (λ a. f a ≡ true) a links all) (pass_all f links (All-tail (λ a. f a ≡ true) a links all))

-- the facts of an eligible activity
pub eligible_not : (p : Problem) (taken : List ℕ) (j : ℕ) → is_eligible p taken j ≡ true → is_member j taken ≡ false
eligible_not p taken j is = not-true (is_member j taken) (and_parts (not (is_member j taken)) (list_all (λ a. not (nat_eq a.to j) || is_member a.from taken) p.links) is).0

pub eligible_preds : (p : Problem) (taken : List ℕ) (j : ℕ) → is_eligible p taken j ≡ true → All (λ a. a.to ≡ j → is_member a.from taken ≡ true) p.links
eligible_preds p taken j is k d within to =
    let passes = all_pass (λ a. not (nat_eq a.to j) || is_member a.from taken) p.links
    (and_parts (not (is_member j taken)) (list_all
    (λ a. not (nat_eq a.to j) || is_member a.from taken) p.links) is).1 k d within in
    elim (or_cases (not (nat_eq (get_or p.links k d).to j)) (is_member (get_or p.links k d).from taken) passes) [
      | inl other ↦ absurd (both_ways (nat_eq (get_or p.links k d).to j) (not-true (nat_eq (get_or p.links k d).to j) other) (eq-eqb (get_or p.links k d).to j to))
      | inr has ↦ has
    ]

pub eligible_from : (p : Problem) (taken : List ℕ) (j : ℕ) → is_member j taken ≡ false → All (λ a. a.to ≡ j → is_member a.from taken ≡ true) p.links → is_eligible p taken j ≡ true
eligible_from p taken j new preds =
    and_from (not (is_member j taken)) (list_all (λ a. not (nat_eq a.to j) || is_member a.from taken) p.links) (not_from_false (is_member j taken) new)
    (pass_all (λ a. not (nat_eq a.to j) || is_member a.from taken) p.links (λ k d within.
    elim (cases_eq (get_or p.links k d).to j) [
      | inl to ↦ or_right (not (nat_eq (get_or p.links k d).to j)) (is_member (get_or p.links k d).from taken) (preds k d within to)
      | inr other ↦ or_left (not (nat_eq (get_or p.links k d).to j))
          (is_member (get_or p.links k d).from taken)
          (not_from_false (nat_eq (get_or p.links k d).to j) (ne_eqb (get_or p.links k d).to j other))
    ]))

-- the members of a list with one more entry at the end
pub member_push : (i j : ℕ) (taken : List ℕ) → is_member i (taken ++ j ∷ []) ≡ (is_member i taken || (nat_eq j i || false))
member_push i j taken = list_any-append (λ x. nat_eq x i) taken (j ∷ [])

pub member_last : (j : ℕ) (taken : List ℕ) → is_member j (taken ++ j ∷ []) ≡ true
member_last j taken = member_push j j taken ∙ or_right (is_member j taken) (nat_eq j j || false) (or_left (nat_eq j j) false (eq-eqb j j refl))

pub member_other : (i j : ℕ) (taken : List ℕ) → i ≢ j → is_member i (taken ++ j ∷ []) ≡ is_member i taken
member_other i j taken other = member_push i j taken ∙ by_case (is_member i taken) where
  apart : (nat_eq j i || false) ≡ false
  apart = or_from (nat_eq j i) false (ne_eqb j i (λ same. other (sym same))) refl

  by_case : (b : Bool) → (b || (nat_eq j i || false)) ≡ b
  by_case true = refl
  by_case false = apart

-- the list contains the placed activities
abbrev pub TakenIs : List (Option ℕ) → List ℕ → Type 0
TakenIs placed taken = (i : ℕ) → is_some (get_or placed i None) ≡ is_member i taken

some_there : (start : Option ℕ) → is_some start ≡ true → (s : ℕ) × (start ≡ Some s)
some_there None is = absurd (false≢true is)
some_there (Some s) is = (s, refl)

none_there : (start : Option ℕ) → is_some start ≡ false → start ≡ None
none_there None is = refl
none_there (Some s) is = absurd (false≢true (sym is))

pub taken_placed : (placed : List (Option ℕ)) (taken : List ℕ) (i : ℕ) → TakenIs placed taken → is_member i taken ≡ true → (s : ℕ) × (get_or placed i None ≡ Some s)
taken_placed placed taken i is has = some_there (get_or placed i None) (is i ∙ has)

pub taken_open : (placed : List (Option ℕ)) (taken : List ℕ) (i : ℕ) → TakenIs placed taken → is_member i taken ≡ false → get_or placed i None ≡ None
taken_open placed taken i is misses = none_there (get_or placed i None) (is i ∙ misses)

pub taken_set : (placed : List (Option ℕ)) (taken : List ℕ) (j t : ℕ) → j < length placed → TakenIs placed taken → TakenIs (set placed j (Some t)) (taken ++ j ∷ [])
taken_set placed taken j t inside is i = elim (cases_eq i j) [
  | inl same ↦
      let here : is_some (get_or (set placed j (Some t)) j None) ≡ is_member j (taken ++ j ∷ []) = ap is_some (get_or-set_same placed j (Some t) None inside) ∙ sym (member_last j taken) in
      subst (λ (x : ℕ). is_some (get_or (set placed j (Some t)) x None) ≡ is_member x (taken ++ j ∷ [])) (sym same) here
  | inr other ↦ ap is_some (get_or-set_other placed j i (Some t) None other) ∙ is i ∙ sym (member_other i j taken other)
]

-- the parts of a turn
pub turn_parts : (p : Problem) (taken : List ℕ) (j : ℕ) (js : List ℕ) →
    takes_in_turn p taken (j ∷ js) ≡ true → (j < count p) × (is_eligible p taken j ≡ true)
    × (takes_in_turn p (taken ++ j ∷ []) js ≡ true)
turn_parts p taken j js turns =
    let parts = and_parts (nat_lt j (count p) && is_eligible p taken j) (takes_in_turn p (taken ++ j ∷ []) js) turns in
    let here = and_parts (nat_lt j (count p)) (is_eligible p taken j) parts.0 in
    (ltb-true j (count p) here.0, here.1, parts.1)

pub turn_from : (p : Problem) (taken : List ℕ) (j : ℕ) (js : List ℕ) → j < count p → is_eligible p taken j ≡ true → takes_in_turn p (taken ++ j ∷ []) js ≡ true → takes_in_turn p taken (j ∷ js) ≡ true
turn_from p taken j js inside eligible rest =
    and_from (nat_lt j (count p) && is_eligible p taken j) (takes_in_turn p (taken ++ j ∷ []) js) (and_from (nat_lt j (count p)) (is_eligible p taken j) (lt-ltb j (count p) inside) eligible) rest

-- the predecessors of an eligible activity are placed
pub ready_from : (p : Problem) (placed : List (Option ℕ)) (taken : List ℕ) (j : ℕ) → TakenIs placed taken → is_eligible p taken j ≡ true → IsReady p placed j
ready_from p placed taken j is eligible k d within to = taken_placed placed taken (get_or p.links k d).from is (eligible_preds p taken j eligible k d within to)

-- the facts that hold after each entry of a list
pub partial_after : (p : Problem) (js taken : List ℕ) (placed : List (Option ℕ)) → NeedsFit p →
    IsPartial p placed → TakenIs placed taken → takes_in_turn p taken js ≡ true →
    IsPartial p (serial_from p placed js) × TakenIs (serial_from p placed js) (taken ++ js)
partial_after p [] taken placed fit partial is turns = (partial, subst (TakenIs placed) (sym (append-nil taken)) is)
partial_after p (j ∷ js) taken placed fit partial is turns =
    let turn = turn_parts p taken j js turns in
    let open_place : get_or placed j None ≡ None = taken_open placed taken j is (eligible_not p taken j turn.1) in
    let next : IsPartial p (set placed j (Some (earliest p placed j))) = partial_set p placed j fit partial turn.0 open_place (ready_from p placed taken j is turn.1) in
    let next_is : TakenIs (set placed j (Some (earliest p placed j))) (taken ++ j ∷ []) = taken_set placed taken j (earliest p placed j) (omega (arith, turn.0, partial.size)) is in
    let after = partial_after p js (taken ++ j ∷ []) (set placed j (Some (earliest p placed j))) fit next next_is turn.2 in
    (after.0, subst (TakenIs (serial_from p (set placed j (Some (earliest p placed j))) js)) (append_assoc taken (j ∷ []) js) after.1)

-- nothing is placed at first
pub unplaced_at : (n i : ℕ) → get_or (unplaced n) i None ≡ None
unplaced_at zero i = refl
unplaced_at (suc n) zero = refl
unplaced_at (suc n) (suc i) = unplaced_at n i

pub partial_first : (p : Problem) → IsPartial p (unplaced (count p))
partial_first p = record {
  size = length-replicate (count p) None;
  capacities = λ t k within. omega (arith, usage_ended p (unplaced (count p)) t k (λ i s is. absurd (none i s is)));
  links = λ k d within s t from to. absurd (none (get_or p.links k d).from s from);
  before = λ k d within t to. absurd (none (get_or p.links k d).to t to);
  left = λ j t is other feasible agree. absurd (none j t is);
} where
  none : (i s : ℕ) → get_or (unplaced (count p)) i None ≡ Some s → ⊥
  none i s is = none-some s (sym (unplaced_at (count p) i) ∙ is)

pub taken_first : (n : ℕ) → TakenIs (unplaced n) []
taken_first n i = ap is_some (unplaced_at n i)

-- 1 if the test passes
abbrev pub one_if : Bool → ℕ
one_if true = 1
one_if false = 0

-- the number of activities in a list
abbrev pub taken_count : Problem → List ℕ → ℕ
taken_count p taken = total (count p) (λ i. one_if (is_member i taken))

pub taken_more : (p : Problem) (taken : List ℕ) (j : ℕ) → j < count p → is_member j taken ≡ false → taken_count p taken + 1 ≡ taken_count p (taken ++ j ∷ [])
taken_more p taken j inside new =
    let before : one_if (is_member j taken) ≡ 0 = ap one_if new in
    let after : one_if (is_member j (taken ++ j ∷ [])) ≡ 1 = ap one_if (member_last j taken) in
    total_changed (count p) (λ i. one_if (is_member i taken)) (λ i. one_if (is_member i (taken ++ j ∷ []))) j 1 inside
    (λ i below other. ap one_if (sym (member_other i j taken other))) (omega (arith, before, after))

pub taken_all : (p : Problem) (js taken : List ℕ) → takes_in_turn p taken js ≡ true → taken_count p taken + length js ≡ taken_count p (taken ++ js)
taken_all p [] taken turns = let same : taken_count p (taken ++ []) ≡ taken_count p taken = ap (taken_count p) (append-nil taken) in omega (arith, same)
taken_all p (j ∷ js) taken turns =
    let turn = turn_parts p taken j js turns in
    let one : taken_count p taken + 1 ≡ taken_count p (taken ++ j ∷ []) = taken_more p taken j turn.0 (eligible_not p taken j turn.1) in
    let rest : taken_count p (taken ++ j ∷ []) + length js ≡ taken_count p ((taken ++ j ∷ []) ++ js) = taken_all p js (taken ++ j ∷ []) turn.2 in
    let same : taken_count p ((taken ++ j ∷ []) ++ js) ≡ taken_count p (taken ++ j ∷ js) = ap (taken_count p) (append_assoc taken (j ∷ []) js) in
    omega (arith, one, rest, same)

pub count_one : (b : Bool) → one_if b ≡ 1 → b ≡ true
count_one true is = refl
count_one false is = absurd (omega (arith, is))

count_limit : (b : Bool) → one_if b ≤ 1
count_limit true = omega arith
count_limit false = omega arith

-- a list with as many of the activities as there are contains each
pub full_has : (p : Problem) (js : List ℕ) (i : ℕ) → count p ≤ taken_count p js → i < count p → is_member i js ≡ true
full_has p js i all inside = count_one (is_member i js) (total_full (count p) (λ i. one_if (is_member i js)) i (λ i. count_limit (is_member i js)) all inside)

pub taken_none : (p : Problem) → taken_count p [] ≡ 0
taken_none p = total_none (count p) (λ i. one_if (is_member i [])) (λ i below. refl)

-- the parts of an order
pub list_parts : (p : Problem) (js : List ℕ) → is_activity_list p js ≡ true → (length js ≡ count p) × (takes_in_turn p [] js ≡ true)
list_parts p js list = let parts = and_parts (nat_eq (length js) (count p)) (takes_in_turn p [] js) list in (eqb-true (length js) (count p) parts.0, parts.1)

-- a list that takes as many in turn as there are takes each
pub takes_each : (p : Problem) (js : List ℕ) (i : ℕ) → is_activity_list p js ≡ true → i < count p → is_member i js ≡ true
takes_each p js i list inside =
    let parts = list_parts p js list in
    full_has p js i (omega (arith, parts.0, taken_all p js [] parts.1, taken_none p)) inside

-- all activities are placed
abbrev pub IsWhole : Problem → List (Option ℕ) → Type 0
IsWhole p placed = (i : ℕ) → i < count p → (s : ℕ) × (get_or placed i None ≡ Some s)

-- a placed activity has an index within the list
pub placed_inside : (placed : List (Option ℕ)) (i s : ℕ) → get_or placed i None ≡ Some s → i < length placed
placed_inside placed i s is = elim (cases_lt i (length placed)) [
  | inl inside ↦ inside
  | inr past ↦ absurd (none-some s (sym (get_or_past placed i None past) ∙ is))
]

-- the start of a placed activity
pub start_at : (placed : List (Option ℕ)) (i s : ℕ) → get_or placed i None ≡ Some s → get_or (map start_or_zero placed) i 0 ≡ s
start_at placed i s is = get_or-map start_or_zero placed i None 0 (placed_inside placed i s is) ∙ ap start_or_zero is

pub all_placed_is : (p : Problem) (placed : List (Option ℕ)) → length placed ≡ count p → IsWhole p placed → all_placed (map start_or_zero placed) ≡ placed
all_placed_is p placed size whole = ext_get_or None (all_placed (map start_or_zero placed)) placed sizes each where
  sizes : length (all_placed (map start_or_zero placed)) ≡ length placed
  sizes = length-map (map start_or_zero placed) Some ∙ length-map placed start_or_zero

  each : (i : ℕ) → i < length (all_placed (map start_or_zero placed)) → get_or (all_placed (map start_or_zero placed)) i None ≡ get_or placed i None
  each i within =
      let start = whole i (omega (arith, within, sizes, size)) in
      let inside : i < length (map start_or_zero placed) = omega (arith, within, length-map (map start_or_zero placed) Some) in
      get_or-map Some (map start_or_zero placed) i 0 None inside ∙ ap Some (start_at placed i start.0 start.1) ∙ sym start.1

pub whole_active : (p : Problem) (placed : List (Option ℕ)) → LinksInside p → IsPartial p placed → IsWhole p placed → IsActive p (map start_or_zero placed)
whole_active p placed inside partial whole = record {
  feasible = record {
    each_started = length-map placed start_or_zero ∙ partial.size;
    arcs = arcs;
    capacities = subst (KeepsCapacities p) (sym (all_placed_is p placed partial.size whole)) partial.capacities;
  };
  no_shift = none;
} where
  arcs : KeepsArcs p (map start_or_zero placed)
  arcs k d within =
      let ends = inside k d within in
      let from = whole (get_or p.links k d).from ends.0 in
      let to = whole (get_or p.links k d).to ends.1 in
      omega (arith, partial.links k d within from.0 to.0 from.1 to.1, start_at placed (get_or p.links k d).from from.0 from.1, start_at placed (get_or p.links k d).to to.0 to.1)

  none : (other : List ℕ) (i : ℕ) → i < count p → IsShift (map start_or_zero placed) other i → IsFeasible p other → ⊥
  none other i within shift feasible =
      let here = whole i within in
      let late : here.0 ≤ get_or other i 0 = partial.left i here.0 here.1 other feasible (λ h s apart is. shift.rest h apart ∙ start_at placed h s is) in
      let less : get_or other i 0 < get_or (map start_or_zero placed) i 0 = shift.less in
      omega (arith, late, less, start_at placed i here.0 here.1)

pub placed_by_serial : (p : Problem) (js : List ℕ) → NeedsFit p → is_activity_list p js ≡ true → IsPartial p (serial_from p (unplaced (count p)) js) × IsWhole p (serial_from p (unplaced (count p)) js)
placed_by_serial p js fit list =
    let parts = list_parts p js list in
    let after = partial_after p js [] (unplaced (count p)) fit (partial_first p) (taken_first (count p)) parts.1 in
    (after.0, λ i inside. taken_placed (serial_from p (unplaced (count p)) js) js i after.1 (takes_each p js i list inside))

-- the serial schedule of an activity list is active
pub serial_active : (p : Problem) (js : List ℕ) → LinksInside p → NeedsFit p → is_activity_list p js ≡ true → IsActive p (serial p js)
unfolding serial
serial_active p js inside fit list =
    let both = placed_by_serial p js fit list in
    whole_active p (serial_from p (unplaced (count p)) js) inside both.0 both.1
