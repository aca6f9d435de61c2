-- The list of a rule is an activity list.
use Rattle.std.proofs.Common.{ℕ, zero, suc, Bool, true, false, cond, not, nat_eq, nat_lt, ◌||◌, ◌≡◌, ◌+◌, ◌≤◌, ◌<◌, ◌⊎◌, inl, inr, List, [], ◌∷◌, ◌++◌, length, get_or, refl, sym, ◌∙◌, ap, subst, arith}
use Rattle.std.specs.List.{All, list_all, fold, AllByRecursion}
use Rattle.std.proofs.lemmas.List.{append-nil, append_assoc}
use Rattle.std.proofs.lemmas.Bool.{cases_lt, cases_eq, cases_Bool, both_ways, and_cases, or_parts, not-false, eqb-true, lt-ltb, le-ltb, cond-true, cond-false, not_from_false, and_from, eq-eqb}
use Rattle.plan_sgs.specs.Problem.{Problem, Link, count, total, LinksInside, IsRanked}
use Rattle.plan_sgs.specs.Rules.{is_member, is_eligible, takes_in_turn, is_activity_list, RisesBy, least_key, eligible, rule_list_from, rule_list}
use Rattle.plan_sgs.proofs.TotalLemmas.{total_rise}
use Rattle.plan_sgs.proofs.SerialLemmas.{eligible_not, member_push, turn_parts, turn_from, one_if, taken_count, taken_more, taken_none}
use Rattle.plan_sgs.proofs.ListLemmas.{total_ones}

-- the first by the key and then by the number of the eligible activities below n
pub record IsFirstBelow (p : Problem) (key : ℕ → ℕ) (taken : List ℕ) (n i : ℕ) : Type 0 where
  pub inside : i < n
  pub eligible : is_eligible p taken i ≡ true
  pub first : (h : ℕ) → h < n → is_eligible p taken h ≡ true → (key i < key h) ⊎ ((key i ≡ key h) × (i ≤ h))

-- the step of the choice
abbrev pub lesser : (ℕ → ℕ) → ℕ → ℕ → ℕ
lesser key b i = cond (nat_lt (key i) (key b)) i b

fold-push : (key : ℕ → ℕ) (b : ℕ) (js : List ℕ) (x : ℕ) → fold (lesser key) b (js ++ x ∷ []) ≡ lesser key (fold (lesser key) b js) x
fold-push key b [] x = refl
fold-push key b (j ∷ js) x = fold-push key (lesser key b j) js x

-- the choice from a list with one more entry at the end
least_key-push : (key : ℕ → ℕ) (other : ℕ) (js : List ℕ) (x : ℕ) → 0 < length js → least_key key other (js ++ x ∷ []) ≡ lesser key (least_key key other js) x
least_key-push key other [] x some = absurd (omega (arith, some))
least_key-push key other (j ∷ js) x some = fold-push key j js x

-- there is no eligible activity below n, or the first of all is chosen
abbrev pub IsChosenBelow : Problem → (ℕ → ℕ) → List ℕ → ℕ → ℕ → Type 0
IsChosenBelow p key taken other n =
    ((eligible p taken n ≡ []) × ((h : ℕ) → h < n → is_eligible p taken h ≡ true → ⊥))
    ⊎ ((0 < length (eligible p taken n)) × IsFirstBelow p key taken n (least_key key other (eligible p taken n)))

-- the next activity isn't eligible
chosen_skip : (p : Problem) (key : ℕ → ℕ) (taken : List ℕ) (other n : ℕ) → is_eligible p taken n ≡ false → IsChosenBelow p key taken other n → IsChosenBelow p key taken other (suc n)
chosen_skip p key taken other n isnt before = elim before [
  | inl none ↦ inl (same ∙ none.0, λ h below is. none.1 h (lower h below is) is)
  | inr some ↦ inr (
    let long : length (eligible p taken (suc n)) ≡ length (eligible p taken n) = ap (λ (xs : List ℕ). length xs) same in omega (arith, long, some.0),
    subst (IsFirstBelow p key taken (suc n)) (ap (least_key key other) (sym same)) (record {
      inside = omega (arith, some.1.inside);
      eligible = some.1.eligible;
      first = λ h below is. some.1.first h (lower h below is) is;
    }),
  )
] where
  same : eligible p taken (suc n) ≡ eligible p taken n
  same = ap (λ (b : Bool). eligible p taken n ++ cond b (n ∷ []) []) isnt ∙ append-nil (eligible p taken n)

  lower : (h : ℕ) → h < suc n → is_eligible p taken h ≡ true → h < n
  lower h below is = elim (cases_eq h n) [
    | inr apart ↦ omega (arith, below, apart)
    | inl here ↦ absurd (both_ways (is_eligible p taken n) isnt (subst (λ (x : ℕ). is_eligible p taken x ≡ true) here is))
  ]

-- it is the first eligible one
chosen_first : (p : Problem) (key : ℕ → ℕ) (taken : List ℕ) (other n : ℕ) → is_eligible p taken n ≡ true →
    eligible p taken n ≡ [] → ((h : ℕ) → h < n → is_eligible p taken h ≡ true → ⊥) →
    IsChosenBelow p key taken other (suc n)
chosen_first p key taken other n is none misses = inr (
  let long : length (eligible p taken (suc n)) ≡ 1 = ap (λ (xs : List ℕ). length xs) one in omega (arith, long),
  subst (IsFirstBelow p key taken (suc n)) (ap (least_key key other) (sym one)) (record {
    inside = omega arith;
    eligible = is;
    first = first;
  }),
) where
  one : eligible p taken (suc n) ≡ n ∷ []
  one = ap (λ (b : Bool). eligible p taken n ++ cond b (n ∷ []) []) is ∙ ap (λ (xs : List ℕ). xs ++ n ∷ []) none

  first : (h : ℕ) → h < suc n → is_eligible p taken h ≡ true → (key n < key h) ⊎ ((key n ≡ key h) × (n ≤ h))
  first h below passes = elim (cases_eq h n) [
    | inl here ↦ inr (ap key (sym here), omega (arith, here))
    | inr apart ↦ absurd (misses h (omega (arith, below, apart)) passes)
  ]

-- it is one more eligible one
chosen_more : (p : Problem) (key : ℕ → ℕ) (taken : List ℕ) (other n : ℕ) → is_eligible p taken n ≡ true →
    0 < length (eligible p taken n) → IsFirstBelow p key taken n (least_key key other (eligible p taken n)) →
    IsChosenBelow p key taken other (suc n)
chosen_more p key taken other n is some before = inr (
  let long : length (eligible p taken (suc n)) ≡ length (eligible p taken n ++ n ∷ []) =
      ap (λ (xs : List ℕ). length xs) pushed in
      omega (arith, long, more (eligible p taken n)),
  subst (IsFirstBelow p key taken (suc n)) (sym chosen)
      (by_key (cases_lt (key n) (key (least_key key other (eligible p taken n))))),
) where
  pushed : eligible p taken (suc n) ≡ eligible p taken n ++ n ∷ []
  pushed = ap (λ (b : Bool). eligible p taken n ++ cond b (n ∷ []) []) is

  more : (xs : List ℕ) → 0 < length (xs ++ n ∷ [])
  more [] = omega arith
  more (x ∷ xs) = omega arith

  chosen : least_key key other (eligible p taken (suc n)) ≡ lesser key (least_key key other (eligible p taken n)) n
  chosen = ap (least_key key other) pushed ∙ least_key-push key other (eligible p taken n) n some

  by_key : (key n < key (least_key key other (eligible p taken n)))
      ⊎ (key (least_key key other (eligible p taken n)) ≤ key n) →
      IsFirstBelow p key taken (suc n) (lesser key (least_key key other (eligible p taken n)) n)
  by_key (inl less) = subst (IsFirstBelow p key taken (suc n))
      (sym (cond-true (nat_lt (key n) (key (least_key key other (eligible p taken n)))) n
      (least_key key other (eligible p taken n)) (lt-ltb (key n)
      (key (least_key key other (eligible p taken n))) less))) (record {
        inside = omega arith;
        eligible = is;
        first = λ h below passes. elim (cases_eq h n) [
          | inl here ↦ inr (ap key (sym here), omega (arith, here))
          | inr apart ↦ elim (before.first h (omega (arith, below, apart)) passes) [
            | inl up ↦ inl (omega (arith, less, up))
            | inr level ↦ inl (omega (arith, less, level.0))
          ]
        ];
      })
  by_key (inr level) = subst (IsFirstBelow p key taken (suc n))
      (sym (cond-false (nat_lt (key n) (key (least_key key other (eligible p taken n)))) n
      (least_key key other (eligible p taken n)) (le-ltb (key n)
      (key (least_key key other (eligible p taken n))) level))) (record {
        inside = omega (arith, before.inside);
        eligible = before.eligible;
        first = λ h below passes. elim (cases_eq h n) [
          | inr apart ↦ before.first h (omega (arith, below, apart)) passes
          | inl here ↦ elim (cases_eq (key (least_key key other (eligible p taken n))) (key n)) [
            | inl equal ↦ inr (equal ∙ ap key (sym here), omega (arith, before.inside, here))
            | inr unequal ↦ let up : key (least_key key other (eligible p taken n)) < key n = omega (arith, level, unequal) in inl (omega (arith, up, ap key here))
          ]
        ];
      })

pub chosen_below : (p : Problem) (key : ℕ → ℕ) (taken : List ℕ) (other n : ℕ) → IsChosenBelow p key taken other n
chosen_below p key taken other zero = inl (refl, λ h below is. omega (arith, below))
chosen_below p key taken other (suc n) = elim (cases_Bool (is_eligible p taken n)) [
  | inr isnt ↦ chosen_skip p key taken other n isnt (chosen_below p key taken other n)
  | inl is ↦ elim (chosen_below p key taken other n) [
    | inl none ↦ chosen_first p key taken other n is none.0 none.1
    | inr some ↦ chosen_more p key taken other n is some.0 some.1
  ]
]

-- the activity that a rule takes next
abbrev pub next_of : Problem → (ℕ → ℕ) → List ℕ → ℕ
next_of p key taken = least_key key (count p) (eligible p taken (count p))

-- it is the first of the eligible activities, if there are any
pub next_first : (p : Problem) (key : ℕ → ℕ) (taken : List ℕ) (i : ℕ) → i < count p → is_eligible p taken i ≡ true → IsFirstBelow p key taken (count p) (next_of p key taken)
next_first p key taken i inside is = elim (chosen_below p key taken (count p) (count p)) [
  | inl none ↦ absurd (none.1 i inside is)
  | inr some ↦ some.1
]

-- the first activity is unique
pub first_once : (p : Problem) (key : ℕ → ℕ) (taken : List ℕ) (n i j : ℕ) → IsFirstBelow p key taken n i → IsFirstBelow p key taken n j → i ≡ j
first_once p key taken n i j one two = elim (one.first j two.inside two.eligible) [
  | inl up ↦ elim (two.first i one.inside one.eligible) [ inl down ↦ absurd (omega (arith, up, down)) | inr level ↦ absurd (omega (arith, up, level.0)) ]
  | inr level ↦ elim (two.first i one.inside one.eligible) [ inl down ↦ absurd (omega (arith, level.0, down)) | inr back ↦ omega (arith, level.1, back.1) ]
]

-- a test that fails of a list fails at a place of it
fails_at : (f : Link → Bool) (links : List Link) → list_all f links ≡ false → (k : ℕ) × (k < length links) × ((d : Link) → f (get_or links k d) ≡ false)
fails_at f [] fails = absurd (both_ways true fails refl)
fails_at f (a ∷ links) fails = elim (and_cases (f a) (list_all f links) fails) [
  | inl here ↦ (0, omega arith, λ d. here)
  | inr there ↦ let rest = fails_at f links there in (suc rest.0, omega (arith, rest.1), rest.2)
]

some_link : (p : Problem) (k : ℕ) → k < length p.links → (a : Link) × ((d : Link) → get_or p.links k d ≡ a)
some_link p k within = first p.links k within where
  first : (links : List Link) (k : ℕ) → k < length links → (a : Link) × ((d : Link) → get_or links k d ≡ a)
  first [] k within = absurd (omega (arith, within))
  first (a ∷ links) zero within = (a, λ d. refl)
  first (a ∷ links) (suc k) within = first links k (omega (arith, within))

-- for each activity that isn't taken there is an eligible one of no greater level, if levels don't
-- fall along links
pub some_eligible : (p : Problem) (rank level : ℕ → ℕ) (taken : List ℕ) → LinksInside p → IsRanked p rank →
    All (λ a. level a.from ≤ level a.to) p.links → (bound j : ℕ) → rank j < bound → j < count p →
    is_member j taken ≡ false
    → (i : ℕ) × (i < count p) × (is_eligible p taken i ≡ true) × (level i ≤ level j)
some_eligible p rank level taken inside ranked levels zero j low within new = absurd (omega (arith, low))
some_eligible p rank level taken inside ranked levels (suc bound) j low within new = elim (cases_Bool (list_all (λ a. not (nat_eq a.to j) || is_member a.from taken) p.links)) [
  | inl all ↦ (j, within, and_from (not (is_member j taken)) (list_all (λ a. not (nat_eq a.to j) || is_member a.from taken) p.links) (not_from_false (is_member j taken) new) all, omega arith)
  | inr some ↦
      let failing = fails_at (λ a. not (nat_eq a.to j) || is_member a.from taken) p.links some in
      let link = some_link p failing.0 failing.1 in
      let d = link.0 in
      let parts = or_parts (not (nat_eq (get_or p.links failing.0 link.0).to j)) (is_member (get_or p.links failing.0 link.0).from taken) (failing.2 link.0) in
      let to : (get_or p.links failing.0 link.0).to ≡ j = eqb-true (get_or p.links failing.0 link.0).to j (not-false (nat_eq (get_or p.links failing.0 link.0).to j) parts.0) in
      let before = some_eligible p rank level taken inside ranked levels bound (get_or p.links failing.0 link.0).from
      (let up : rank (get_or p.links failing.0 link.0).from < rank (get_or p.links failing.0 link.0).to = ranked failing.0 link.0 failing.1 in omega (arith, up, low, ap rank to))
      (inside failing.0 link.0 failing.1).0 parts.1 in
      let up : level (get_or p.links failing.0 link.0).from ≤ level (get_or p.links failing.0 link.0).to = levels failing.0 link.0 failing.1 in
      (before.0, before.1, before.2, omega (arith, before.3, up, ap level to))
]

count_none : (b : Bool) → one_if b < 1 → b ≡ false
count_none true low = absurd (omega (arith, low))
count_none false low = refl

-- with fewer taken than there are, some activity isn't taken
pub some_untaken : (p : Problem) (taken : List ℕ) → taken_count p taken < count p → (j : ℕ) × (j < count p) × (is_member j taken ≡ false)
some_untaken p taken few =
    let all : total (count p) (λ _. 1) ≡ count p = total_ones (count p) (λ _. 1) (λ i below. refl) in
    let rise = total_rise (count p) (λ i. one_if (is_member i taken)) (λ _. 1) (omega (arith, few, all)) in
    (rise.0, rise.1, count_none (is_member rise.0 taken) rise.2)

-- the next entry that a rule takes
pub record IsNext (p : Problem) (key : ℕ → ℕ) (taken : List ℕ) : Type 0 where
  pub first : IsFirstBelow p key taken (count p) (next_of p key taken)
  pub least : All (λ a. key a.from ≤ key a.to) p.links → (i : ℕ) → i < count p → is_member i taken ≡ false → key (next_of p key taken) ≤ key i

-- while some activity isn't taken there is a next one
pub next_there : (p : Problem) (rank key : ℕ → ℕ) (taken : List ℕ) → LinksInside p → IsRanked p rank → taken_count p taken < count p → IsNext p key taken
next_there p rank key taken inside ranked few =
    let open_one = some_untaken p taken few in
    let some = some_eligible p rank (λ _. 0) taken inside ranked (λ k d within. omega arith) (suc (rank open_one.0)) open_one.0 (omega arith) open_one.1 open_one.2 in
    let next = next_first p key taken some.0 some.1 some.2 in
    record {
      first = next;
      least = λ levels i below new.
          let low = some_eligible p rank key taken inside ranked levels (suc (rank i)) i (omega arith) below new in
          elim (next.first low.0 low.1 low.2) [ inl up ↦ omega (arith, up, low.3) | inr level ↦ omega (arith, level.0, low.3) ];
    }

-- an activity taken in turn wasn't taken before
pub turns_untaken : (p : Problem) (js taken : List ℕ) → takes_in_turn p taken js ≡ true → AllByRecursion (λ i. (i < count p) × (is_member i taken ≡ false)) js
turns_untaken p [] taken turns = tt
turns_untaken p (j ∷ js) taken turns =
    let turn = turn_parts p taken j js turns in
    ((turn.0, eligible_not p taken j turn.1), weaker p js taken j (turns_untaken p js (taken ++ j ∷ []) turn.2)) where
      weaker : (p : Problem) (js taken : List ℕ) (j : ℕ) →
          AllByRecursion (λ i. (i < count p) × (is_member i (taken ++ j ∷ []) ≡ false)) js →
          AllByRecursion (λ i. (i < count p) × (is_member i taken ≡ false)) js
      weaker p [] taken j all = tt
      weaker p (i ∷ js) taken j (here, all) = ((here.0, (or_parts (is_member i taken) (nat_eq j i || false) (sym (member_push i j taken) ∙ here.1)).0), weaker p js taken j all)

-- the entries that a rule takes after those taken
pub record Continues (p : Problem) (key : ℕ → ℕ) (taken : List ℕ) (n : ℕ) (js : List ℕ) : Type 0 where
  pub list : rule_list_from p key taken n ≡ taken ++ js
  pub turns : takes_in_turn p taken js ≡ true
  pub size : length js ≡ n
  pub rises : All (λ a. key a.from ≤ key a.to) p.links → RisesBy key js

each_least : (p : Problem) (key : ℕ → ℕ) (taken js : List ℕ) (b : ℕ) →
    ((i : ℕ) → i < count p → is_member i taken ≡ false → b ≤ key i) →
    AllByRecursion (λ i. (i < count p) × (is_member i taken ≡ false)) js → AllByRecursion (λ i. b ≤ key i) js
each_least p key taken [] b least all = tt
each_least p key taken (j ∷ js) b least (here, all) = (least j here.0 here.1, each_least p key taken js b least all)

continues_more : (p : Problem) (key : ℕ → ℕ) (taken : List ℕ) (n : ℕ) (js : List ℕ) → IsNext p key taken →
    Continues p key (taken ++ next_of p key taken ∷ []) n js →
    Continues p key taken (suc n) (next_of p key taken ∷ js)
continues_more p key taken n js next rest = record {
  list = rest.list ∙ append_assoc taken (next_of p key taken ∷ []) js;
  turns = turns;
  size = omega (arith, rest.size);
  rises = λ levels. (each_least p key taken js (key (next_of p key taken)) (next.least levels) (turns_untaken p (next_of p key taken ∷ js) taken turns).1, rest.rises levels);
} where
  turns : takes_in_turn p taken (next_of p key taken ∷ js) ≡ true
  turns = turn_from p taken (next_of p key taken) js next.first.inside next.first.eligible rest.turns

pub rule_continues : (p : Problem) (rank key : ℕ → ℕ) → LinksInside p → IsRanked p rank → (n : ℕ) (taken : List ℕ) → taken_count p taken + n ≡ count p → (js : List ℕ) × Continues p key taken n js
rule_continues p rank key inside ranked zero taken counted = ([], record { list = sym (append-nil taken); turns = refl; size = refl; rises = λ levels. tt })
rule_continues p rank key inside ranked (suc n) taken counted =
    let next = next_there p rank key taken inside ranked (omega (arith, counted)) in
    let one : taken_count p taken + 1 ≡ taken_count p (taken ++ next_of p key taken ∷ []) =
    taken_more p taken (next_of p key taken) next.first.inside
    (eligible_not p taken (next_of p key taken) next.first.eligible) in
    let rest = rule_continues p rank key inside ranked n (taken ++ next_of p key taken ∷ []) (omega (arith, counted, one)) in
    (next_of p key taken ∷ rest.0, continues_more p key taken n rest.0 next rest.1)

-- the list of a rule
pub rule_parts : (p : Problem) (rank key : ℕ → ℕ) → LinksInside p → IsRanked p rank → Continues p key [] (count p) (rule_list p key)
unfolding rule_list
rule_parts p rank key inside ranked =
    let all = rule_continues p rank key inside ranked (count p) [] (omega (arith, taken_none p)) in
    subst (Continues p key [] (count p)) (sym all.1.list) all.1

-- the list of any rule is an activity list
pub rule_list_is : (p : Problem) (rank key : ℕ → ℕ) → LinksInside p → IsRanked p rank → is_activity_list p (rule_list p key) ≡ true
rule_list_is p rank key inside ranked =
    let parts = rule_parts p rank key inside ranked in
    and_from (nat_eq (length (rule_list p key)) (count p)) (takes_in_turn p [] (rule_list p key)) (eq-eqb (length (rule_list p key)) (count p) parts.size) parts.turns

-- a rule whose key doesn't fall along the links takes the activities by rising keys
pub rule_list_rises : (p : Problem) (rank key : ℕ → ℕ) → LinksInside p → IsRanked p rank → All (λ a. key a.from ≤ key a.to) p.links → RisesBy key (rule_list p key)
rule_list_rises p rank key inside ranked levels = (rule_parts p rank key inside ranked).rises levels
