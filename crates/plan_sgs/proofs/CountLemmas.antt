-- The number of elements of a list that pass a test, and the number of arcs from one activity to
-- another.
use Rattle.std.proofs.Common.{ℕ, suc, Bool, true, false, cond, not, nat_eq, ◌&&◌, ◌≡◌, ◌+◌, ◌-◌, ◌≤◌, ◌<◌, inl, inr, List, [], ◌∷◌, length, get_or, set, take, map, replicate, refl, sym, ◌∙◌, ap, subst, arith, get_or-set_same, get_or-set_other}
use Rattle.std.specs.List.{Contains, count_by, list_all}
use Rattle.std.specs.List.Sorted.{IsStrictlyIncreasing}
use Rattle.std.proofs.lemmas.List.{get_or-take, length-take-le, length-set, length-replicate, get_or-replicate}
use Rattle.std.proofs.lemmas.List.Elements.{Contains-get_or}
use Rattle.std.proofs.lemmas.List.Sums.{sum_by-cons, sum_by_more, get_or-le-sum_by, count_by-le-length}
use Rattle.std.proofs.lemmas.Option.{slice_get-get_or}
use Rattle.std.proofs.lemmas.Bool.{cases_lt, cases_eq, cases_Bool, and_parts, and_from, eqb-true, eq-eqb, ne_eqb}
use Rattle.plan_net.specs.Network.{Net, count_of, IsArc, IsActivity, ListsRising}
use Rattle.plan_net.specs.Limits.{IsWithinLimits}
use Rattle.plan_net.proofs.RisingLemmas.{place_in, rising_later}
use Rattle.plan_net.proofs.RowLemmas.{arc_ends}
use Rattle.plan_sgs.specs.Eligibility.{AreInDegrees, arcs_between}

-- 1 for true, 0 for false
abbrev pub tally : Bool → ℕ
tally b = cond b 1 0

module _ {X : Type 0} (p : X → Bool) where
  -- one element more
  pub count_yes : (x : X) (xs : List X) → p x ≡ true → count_by p (x ∷ xs) ≡ suc (count_by p xs)
  count_yes x xs is = let one : tally (p x) ≡ 1 = ap (λ (b : Bool). tally b) is in omega (arith, one, sum_by-cons (λ y. tally (p y)) x xs)

  pub count_no : (x : X) (xs : List X) → p x ≡ false → count_by p (x ∷ xs) ≡ count_by p xs
  count_no x xs isnt = let one : tally (p x) ≡ 0 = ap (λ (b : Bool). tally b) isnt in omega (arith, one, sum_by-cons (λ y. tally (p y)) x xs)

  -- an element that passes is counted
  pub count_some : (xs : List X) (k : ℕ) (d : X) → k < length xs → p (get_or xs k d) ≡ true → 1 ≤ count_by p xs
  count_some xs k d within is =
      let here : tally (p (get_or xs k d)) ≤ count_by p xs = get_or-le-sum_by (λ y. tally (p y)) xs k d within in
      let one : tally (p (get_or xs k d)) ≡ 1 = ap (λ (b : Bool). tally b) is in
      omega (arith, here, one)

  -- if the count is positive, some element passes
  pub count_place : (xs : List X) (d : X) → 1 ≤ count_by p xs → (k : ℕ) × (k < length xs) × (p (get_or xs k d) ≡ true)
  count_place [] d some = absurd (omega (arith, some))
  count_place (x ∷ xs) d some = elim (cases_Bool (p x)) [
    | inl here ↦ (0, omega arith, here)
    | inr other ↦ let rest = count_place xs d (omega (arith, some, count_no x xs other)) in (suc rest.0, omega (arith, rest.1), rest.2)
  ]

  -- if no element passes, the count is 0
  pub count_none : (xs : List X) (d : X) → ((k : ℕ) → k < length xs → p (get_or xs k d) ≡ true → ⊥) → count_by p xs ≡ 0
  count_none xs d none = elim (cases_lt 0 (count_by p xs)) [
    | inl some ↦ let at = count_place xs d (omega (arith, some)) in absurd (none at.0 at.1 at.2)
    | inr few ↦ omega (arith, few)
  ]

  -- if no two elements pass, the count is at most 1
  pub count_once : (xs : List X) (d : X) → ((a b : ℕ) → a < b → b < length xs → p (get_or xs a d) ≡ true → p (get_or xs b d) ≡ true → ⊥) → count_by p xs ≤ 1
  count_once [] d apart = omega arith
  count_once (x ∷ xs) d apart = elim (cases_Bool (p x)) [
    | inl here ↦
        let none : count_by p xs ≡ 0 = count_none xs d (λ k within is. apart 0 (suc k) (omega arith) (omega (arith, within)) here is) in
        omega (arith, none, count_yes x xs here)
    | inr other ↦
        let rest : count_by p xs ≤ 1 = count_once xs d (λ a b before within. apart (suc a) (suc b) (omega (arith, before)) (omega (arith, within))) in
        omega (arith, rest, count_no x xs other)
  ]

  -- the test whether all fail is the test whether the count is 0
  pub all_fail : (q : X → Bool) → ((x : X) → q x ≡ not (p x)) → (xs : List X) → list_all q xs ≡ nat_eq (count_by p xs) 0
  all_fail q fails [] = refl
  all_fail q fails (x ∷ xs) = elim (cases_Bool (p x)) [
    | inl here ↦ ap (λ (b : Bool). b && list_all q xs) (fails x ∙ ap not here) ∙ sym (ne_eqb (count_by p (x ∷ xs)) 0 (λ none. omega (arith, none, count_yes x xs here)))
    | inr other ↦ ap (λ (b : Bool). b && list_all q xs) (fails x ∙ ap not other) ∙ all_fail q fails xs ∙ ap (λ (n : ℕ). nat_eq n 0) (sym (count_no x xs other))
  ]

  -- the elements that pass are split in two
  pub count_parted : (q r : X → Bool) → ((x : X) → tally (p x) + tally (q x) ≡ tally (r x)) → (xs : List X) → count_by p xs + count_by q xs ≡ count_by r xs
  count_parted q r each [] = refl
  count_parted q r each (x ∷ xs) = omega (arith, each x, count_parted q r each xs, sum_by-cons (λ y. tally (p y)) x xs, sum_by-cons (λ y. tally (q y)) x xs, sum_by-cons (λ y. tally (r y)) x xs)

  -- the count in a list of images
  pub count_images : {Y : Type 0} (f : Y → X) (q : Y → Bool) → ((y : Y) → p (f y) ≡ q y) → (ys : List Y) → count_by p (map f ys) ≡ count_by q ys
  count_images f q each [] = refl
  count_images f q each (y ∷ ys) =
      let same : tally (p (f y)) ≡ tally (q y) = ap (λ (b : Bool). tally b) (each y) in
      omega (arith, same, count_images f q each ys, sum_by-cons (λ x. tally (p x)) (f y) (map f ys), sum_by-cons (λ x. tally (q x)) y ys)

-- the number of times that the activity at an index is in a row of numbers
abbrev pub times_in_row : List ℕ → ℕ → ℕ
times_in_row row h = count_by (λ j. nat_eq (j - 1) h) row

-- at most once in a rising one of numbers from 1 on
pub row_once : (row : List ℕ) → IsStrictlyIncreasing row → ((k : ℕ) → k < length row → 1 ≤ get_or row k 0) → (h : ℕ) → times_in_row row h ≤ 1
row_once row rising from_one h = count_once (λ j. nat_eq (j - 1) h) row 0 (λ a b before within one two.
    let up : get_or row a 0 < get_or row b 0 = rising_later row rising a b before within in
    absurd (omega (arith, up, from_one a (omega (arith, before, within)), eqb-true (get_or row a 0 - 1) h one, eqb-true (get_or row b 0 - 1) h two)))

-- a number of a row isn't earlier in the row
pub row_not_before : (row : List ℕ) → IsStrictlyIncreasing row → ((k : ℕ) → k < length row → 1 ≤ get_or row k 0) → (k : ℕ) → k < length row → times_in_row (take k row) (get_or row k 0 - 1) ≡ 0
row_not_before row rising from_one k within = count_none (λ j. nat_eq (j - 1) (get_or row k 0 - 1)) (take k row) 0 (λ a low is.
    let long : length (take k row) ≡ k = length-take-le k row (omega (arith, within)) in
    let early : a < k = omega (arith, low, long) in
    let up : get_or row a 0 < get_or row k 0 = rising_later row rising a k early within in
    absurd (omega (arith, up, from_one a (omega (arith, early, within)), get_or-take k row a 0 early, eqb-true (get_or (take k row) a 0 - 1) (get_or row k 0 - 1) is)))

-- an arc is counted
pub between_some : (net : Net) (j k : ℕ) → IsArc net j k → 1 ≤ arcs_between net.arcs (j - 1) (k - 1)
between_some net j k (m, within, is) = count_some (λ arc. nat_eq (arc.0 - 1) (j - 1) && nat_eq (arc.1 - 1) (k - 1)) net.arcs m (j, k) within
    (subst (λ (arc : ℕ × ℕ). (nat_eq (arc.0 - 1) (j - 1) && nat_eq (arc.1 - 1) (k - 1)) ≡ true) (sym is)
    (and_from (nat_eq (j - 1) (j - 1)) (nat_eq (k - 1) (k - 1)) (eq-eqb (j - 1) (j - 1) refl)
    (eq-eqb (k - 1) (k - 1) refl)))

pair_is : (arc : ℕ × ℕ) (a b : ℕ) → arc.0 ≡ a → arc.1 ≡ b → arc ≡ (a, b)
pair_is arc a b from to = ap (λ (x : ℕ). (x, arc.1)) from ∙ ap (λ (y : ℕ). (a, y)) to

-- the arc at a place that is counted
arc_is : (net : Net) (j h : ℕ) → IsWithinLimits net → IsActivity net j → (k : ℕ) → k < length net.arcs →
    (nat_eq ((get_or net.arcs k (0, 0)).0 - 1) (j - 1) && nat_eq ((get_or net.arcs k (0, 0)).1 - 1) h) ≡
    true → get_or net.arcs k (0, 0) ≡ (j, h + 1)
arc_is net j h limits activity k within is =
    let arc = get_or net.arcs k (0, 0) in
    let parts = and_parts (nat_eq (arc.0 - 1) (j - 1)) (nat_eq (arc.1 - 1) h) is in
    let ends = arc_ends net arc.0 arc.1 limits (Contains-get_or net.arcs k (0, 0) within) in
    let from : arc.0 ≡ j = omega (arith, eqb-true (arc.0 - 1) (j - 1) parts.0, ends.0, activity) in
    let to : arc.1 ≡ h + 1 = omega (arith, eqb-true (arc.1 - 1) h parts.1, ends.1) in
    pair_is arc j (h + 1) from to

-- a pair that is counted is an arc
pub between_arc : (net : Net) (j h : ℕ) → IsWithinLimits net → IsActivity net j → 1 ≤ arcs_between net.arcs (j - 1) h → IsArc net j (h + 1)
between_arc net j h limits activity some =
    let at = count_place (λ arc. nat_eq (arc.0 - 1) (j - 1) && nat_eq (arc.1 - 1) h) net.arcs (0, 0) some in
    subst (λ (arc : ℕ × ℕ). Contains net.arcs arc) (arc_is net j h limits activity at.0 at.1 at.2) (Contains-get_or net.arcs at.0 (0, 0) at.1)

-- no arc is counted twice
pub between_once : (net : Net) (j h : ℕ) → IsWithinLimits net → IsActivity net j → arcs_between net.arcs (j - 1) h ≤ 1
between_once net j h limits activity = count_once (λ arc. nat_eq (arc.0 - 1) (j - 1) && nat_eq (arc.1 - 1) h) net.arcs (0, 0) (λ a b before within one two.
    let long : length (take b net.arcs) ≡ b = length-take-le b net.arcs (omega (arith, within)) in
    let same : get_or (take b net.arcs) a (0, 0) ≡ get_or net.arcs b (0, 0) =
    get_or-take b net.arcs a (0, 0) before ∙ arc_is net j h limits activity a
    (omega (arith, before, within)) one ∙ sym (arc_is net j h limits activity b within two) in
    limits.new_arcs b within (get_or net.arcs b (0, 0)) (slice_get-get_or net.arcs b (0, 0) within)
    (subst (λ (arc : ℕ × ℕ). Contains (take b net.arcs) arc) same
    (Contains-get_or (take b net.arcs) a (0, 0) (omega (arith, before, long)))))

-- an activity is in the row of successors as many times as there are arcs to it
pub row_as_arcs : (net : Net) (j : ℕ) (row : List ℕ) → IsWithinLimits net → IsActivity net j →
    ListsRising (IsArc net j) row → ((k : ℕ) → k < length row → 1 ≤ get_or row k 0) → (h : ℕ) →
    times_in_row row h ≡ arcs_between net.arcs (j - 1) h
row_as_arcs net j row limits activity listed from_one h = elim (cases_lt 0 (times_in_row row h)) [
  | inl some ↦
      let at = count_place (λ k. nat_eq (k - 1) h) row 0 (omega (arith, some)) in
      let arc = (listed.exact (get_or row at.0 0)).0 (Contains-get_or row at.0 0 at.1) in
      let place : get_or row at.0 0 - 1 ≡ h = eqb-true (get_or row at.0 0 - 1) h at.2 in
      let counted : 1 ≤ arcs_between net.arcs (j - 1) h = subst (λ (x : ℕ). 1 ≤ arcs_between net.arcs (j - 1) x) place (between_some net j (get_or row at.0 0) arc) in
      omega (arith, some, counted, row_once row listed.rising from_one h, between_once net j h limits activity)
  | inr none ↦ elim (cases_lt 0 (arcs_between net.arcs (j - 1) h)) [
    | inl some ↦
        let place = place_in row (h + 1) ((listed.exact (h + 1)).1 (between_arc net j h limits activity (omega (arith, some)))) in
        let same : get_or row place.0 0 - 1 ≡ h = omega (arith, place.2) in
        absurd (omega (arith, none, count_some (λ k. nat_eq (k - 1) h) row place.0 0 place.1 (eq-eqb (get_or row place.0 0 - 1) h same)))
    | inr few ↦ omega (arith, none, few)
  ]
]

-- an empty list has no arcs to any activity
pub degrees_first : (n : ℕ) (waits : List ℕ) → waits ≡ replicate n 0 → AreInDegrees n [] waits
degrees_first n waits none = subst (AreInDegrees n []) (sym none) (record { size = length-replicate n 0; each = λ h below. get_or-replicate n h 0 0 below })

-- one more arc
pub degrees_more : (n k : ℕ) (arcs : List (ℕ × ℕ)) (waits : List ℕ) (i : ℕ) → k < length arcs →
    (get_or arcs k (0, 0)).1 - 1 ≡ i → i < n → AreInDegrees n (take k arcs) waits →
    AreInDegrees n (take (k + 1) arcs) (set waits i (get_or waits i 0 + 1))
degrees_more n k arcs waits i within is below are = record {
  size = length-set waits i (get_or waits i 0 + 1) ∙ are.size;
  each = λ h inside.
      let more : count_by (λ arc. nat_eq (arc.1 - 1) h) (take (k + 1) arcs) ≡ count_by
      (λ arc. nat_eq (arc.1 - 1) h) (take k arcs) + tally (nat_eq ((get_or arcs k (0, 0)).1 - 1) h) =
      sum_by_more (λ (arc : ℕ × ℕ). tally (nat_eq (arc.1 - 1) h)) arcs k (0, 0) within in
      let which : tally (nat_eq ((get_or arcs k (0, 0)).1 - 1) h) ≡ tally (nat_eq i h) = ap (λ (m : ℕ). tally (nat_eq m h)) is in
      elim (cases_eq i h) [
        | inl same ↦
            let here : get_or (set waits i (get_or waits i 0 + 1)) h 0 ≡ get_or waits i 0 + 1 =
            subst (λ (m : ℕ). get_or (set waits i (get_or waits i 0 + 1)) m 0 ≡ get_or waits i 0 + 1) same
            (get_or-set_same waits i (get_or waits i 0 + 1) 0 (omega (arith, below, are.size))) in
            let one : tally (nat_eq i h) ≡ 1 = ap (λ (b : Bool). tally b) (eq-eqb i h same) in
            omega (arith, more, which, here, one, are.each h inside, ap (λ (m : ℕ). get_or waits m 0) same)
        | inr other ↦
            let none : tally (nat_eq i h) ≡ 0 = ap (λ (b : Bool). tally b) (ne_eqb i h other) in
            omega (arith, more, which, none, are.each h inside, get_or-set_other waits i h (get_or waits i 0 + 1) 0 (λ same. other (sym same)))
      ];
}

-- at most as many as there are
pub degree_limit : (n : ℕ) (arcs : List (ℕ × ℕ)) (waits : List ℕ) (h : ℕ) → AreInDegrees n arcs waits → h < n → get_or waits h 0 ≤ length arcs
degree_limit n arcs waits h are below = omega (arith, are.each h below, count_by-le-length (λ (arc : ℕ × ℕ). nat_eq (arc.1 - 1) h) arcs)

-- an arc leads to the place of an activity
pub arc_inside : (net : Net) (arcs : List (ℕ × ℕ)) (k : ℕ) → IsWithinLimits net → arcs ≡ net.arcs → k < length arcs → (get_or arcs k (0, 0)).1 - 1 < count_of net
arc_inside net arcs k limits is within =
    let arc = get_or arcs k (0, 0) in
    let has : Contains net.arcs arc = subst (λ (xs : List (ℕ × ℕ)). Contains xs arc) is (Contains-get_or arcs k (0, 0) within) in
    omega (arith, (arc_ends net arc.0 arc.1 limits has).1)
