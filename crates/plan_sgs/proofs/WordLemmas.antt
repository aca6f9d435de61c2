-- The words of a project are the lists that take activities in turn.
use Rattle.std.proofs.Common.{ℕ, zero, suc, Bool, true, false, cond, ◌≡◌, ◌+◌, ◌-◌, ◌≤◌, ◌<◌, inl, inr, List, [], ◌∷◌, ◌++◌, length, get_or, refl, sym, ◌∙◌, ap, subst, arith, length-append}
use Rattle.std.specs.List.{All, AllPairs, Contains}
use Rattle.std.proofs.lemmas.Bool.{cases_lt, cases_eq, false≢true}
use Rattle.std.proofs.lemmas.List.{append-nil, append_assoc, length-map, get_or-map, get_or_default, map-append, map_push, get_or_append_left, get_or-append_right}
use Rattle.std.proofs.lemmas.List.Elements.{All-nil, All-cons, All-head, All-tail, Contains-append_cases, Contains-append_left, Contains-append_right, Contains-get_or}
use Rattle.plan_sgs.specs.Problem.{Problem}
use Rattle.plan_sgs.specs.Rules.{places, is_eligible, eligible, takes_in_turn}
use Rattle.plan_sgs.specs.Instances.{Planned, problem_of}
use Rattle.plan_sgs.specs.ProjectWords.{depth_of, letters_after, Follows}
use Rattle.plan_sgs.proofs.SerialLemmas.{turn_parts, turn_from}

-- the one element of a list of at most one
only_one : (b : Bool) (n x : ℕ) → Contains (cond b (n ∷ []) []) x → (b ≡ true) × (n ≡ x)
only_one true n x (zero, l, e) = (refl, e)
only_one true n x (suc k, l, e) = absurd (omega (arith, l))
only_one false n x (k, l, e) = absurd (omega (arith, l))

one_there : (b : Bool) (n x : ℕ) → b ≡ true → x ≡ n → Contains (cond b (n ∷ []) []) x
one_there true n x e same = (0, omega arith, sym same)
one_there false n x e same = absurd (false≢true e)

one_is : (b : Bool) (n k d : ℕ) → k < length (cond b (n ∷ []) []) → get_or (cond b (n ∷ []) []) k d ≡ n
one_is true n zero d l = refl
one_is true n (suc k) d l = absurd (omega (arith, l))
one_is false n k d l = absurd (omega (arith, l))

one_long : (b : Bool) (n : ℕ) → length (cond b (n ∷ []) []) ≤ 1
one_long true n = omega arith
one_long false n = omega arith

-- each listed eligible activity is eligible
pub eligible_in : (p : Problem) (taken : List ℕ) (n x : ℕ) → Contains (eligible p taken n) x → (x < n) × (is_eligible p taken x ≡ true)
eligible_in p taken zero x (k, l, e) = absurd (omega (arith, l))
eligible_in p taken (suc n) x c = elim (Contains-append_cases (eligible p taken n) (cond (is_eligible p taken n) (n ∷ []) []) x c) [
  | inl before ↦ let b = eligible_in p taken n x before in (omega (arith, b.0), b.1)
  | inr last ↦
      let o = only_one (is_eligible p taken n) n x last in
      (omega (arith, o.1), ap (is_eligible p taken) (sym o.1) ∙ o.0)
]

-- each eligible activity is listed
pub eligible_there : (p : Problem) (taken : List ℕ) (n x : ℕ) → x < n → is_eligible p taken x ≡ true → Contains (eligible p taken n) x
eligible_there p taken zero x l e = absurd (omega (arith, l))
eligible_there p taken (suc n) x l e = elim (cases_eq x n) [
  | inl same ↦ Contains-append_right (eligible p taken n) (cond (is_eligible p taken n) (n ∷ []) []) x (one_there (is_eligible p taken n) n x (ap (is_eligible p taken) (sym same) ∙ e) same)
  | inr other ↦ Contains-append_left (eligible p taken n) (cond (is_eligible p taken n) (n ∷ []) []) x (eligible_there p taken n x (omega (arith, l, other)) e)
]

-- the eligible ones rise
pub eligible_rise : (p : Problem) (taken : List ℕ) (n : ℕ) → AllPairs (λ a b. a < b) (eligible p taken n)
eligible_rise p taken zero i j d l m = absurd (omega (arith, m))
eligible_rise p taken (suc n) i j d l m = elim (cases_lt j (length (eligible p taken n))) [
  | inl before ↦
      let low : get_or (eligible p taken n) i d < get_or (eligible p taken n) j d = eligible_rise p taken n i j d l before in
      let first : get_or (eligible p taken n ++ tip) i d ≡ get_or (eligible p taken n) i d = get_or_append_left (eligible p taken n) tip d i (omega (arith, l, before)) in
      let second : get_or (eligible p taken n ++ tip) j d ≡ get_or (eligible p taken n) j d = get_or_append_left (eligible p taken n) tip d j before in
      omega (arith, low, first, second)
  | inr last ↦
      let long : length (eligible p taken n ++ tip) ≡ length (eligible p taken n) + length tip = length-append (eligible p taken n) tip in
      let short : length tip ≤ 1 = one_long (is_eligible p taken n) n in
      let inside : i < length (eligible p taken n) = omega (arith, long, short, m, l, last) in
      let first : get_or (eligible p taken n ++ tip) i d ≡ get_or (eligible p taken n) i d = get_or_append_left (eligible p taken n) tip d i inside in
      let low : get_or (eligible p taken n) i d < n = (eligible_in p taken n (get_or (eligible p taken n) i d) (Contains-get_or (eligible p taken n) i d inside)).0 in
      let second : get_or (eligible p taken n ++ tip) j d ≡ get_or tip (j - length (eligible p taken n)) d = get_or-append_right (eligible p taken n) tip (length (eligible p taken n)) j d refl last in
      let is : get_or tip (j - length (eligible p taken n)) d ≡ n = one_is (is_eligible p taken n) n (j - length (eligible p taken n)) d (omega (arith, long, m, last)) in
      omega (arith, first, low, second, is)
] where
  tip : List ℕ
  tip = cond (is_eligible p taken n) (n ∷ []) []

-- facts of a letter that may follow
pub record IsLetter (i : Planned) (u : List ℕ) (a : ℕ) : Type 0 where
  pub from_one : 1 ≤ a
  pub inside : a - 1 < depth_of i
  pub eligible : is_eligible (problem_of i) (places u) (a - 1) ≡ true

-- a letter that may follow
pub letter_is : (i : Planned) (u : List ℕ) (a : ℕ) → Contains (letters_after i u) a → IsLetter i u a
unfolding letters_after
letter_is i u a (k, l, e) = record {
  from_one = omega (arith, number);
  inside =
      omega (arith, here.0, number);
  eligible = ap (is_eligible (problem_of i) (places u))
      (omega (arith, number)) ∙ here.1;
} where
  js : List ℕ
  js = eligible (problem_of i) (places u) (depth_of i)

  within : k < length js
  within = omega (arith, l, length-map js suc)

  number : suc (get_or js k 0) ≡ a
  number = sym (get_or-map suc js k 0 a within) ∙ e

  here : (get_or js k 0 < depth_of i) × (is_eligible (problem_of i) (places u) (get_or js k 0) ≡ true)
  here = eligible_in (problem_of i) (places u) (depth_of i) (get_or js k 0) (Contains-get_or js k 0 within)

-- an eligible activity may follow
pub letter_from : (i : Planned) (u : List ℕ) (j : ℕ) → j < depth_of i → is_eligible (problem_of i) (places u) j ≡ true → Contains (letters_after i u) (suc j)
unfolding letters_after
letter_from i u j inside is =
    let js = eligible (problem_of i) (places u) (depth_of i) in
    let there = eligible_there (problem_of i) (places u) (depth_of i) j inside is in
    let here : get_or (eligible (problem_of i) (places u) (depth_of i)) there.0 0 ≡ j = get_or_default (eligible (problem_of i) (places u) (depth_of i)) there.0 0 j there.1 ∙ there.2 in
    (there.0, omega (arith, there.1, length-map js suc), get_or-map suc js there.0 0 (suc j) there.1 ∙ ap suc here)

pub places_push : (u : List ℕ) (a : ℕ) → places (u ++ a ∷ []) ≡ places u ++ (a - 1) ∷ []
places_push u a = map_push (λ (j : ℕ). j - 1) u a

pub places_append : (u v : List ℕ) → places (u ++ v) ≡ places u ++ places v
places_append u v = map-append (λ (j : ℕ). j - 1) u v

-- numbers from 1 on that take activities in turn after others
pub record TakesTurns (i : Planned) (u w : List ℕ) : Type 0 where
  pub from_one : All (λ a. 1 ≤ a) w
  pub turns : takes_in_turn (problem_of i) (places u) (places w) ≡ true

pub word_turns : (i : Planned) (u w : List ℕ) → Follows i u w → TakesTurns i u w
word_turns i u [] follows = record { from_one = All-nil (λ a. 1 ≤ a); turns = refl }
word_turns i u (a ∷ w) (here, there) =
    let letter = letter_is i u a here in
    let rest = word_turns i (u ++ a ∷ []) w there in
    record {
      from_one = All-cons (λ b. 1 ≤ b) a w letter.from_one rest.from_one;
      turns = turn_from (problem_of i) (places u) (a - 1) (places w) letter.inside letter.eligible
          (subst (λ (xs : List ℕ). takes_in_turn (problem_of i) xs (places w) ≡ true)
          (places_push u a) rest.turns);
    }

pub turns_word : (i : Planned) (u w : List ℕ) → All (λ a. 1 ≤ a) w → takes_in_turn (problem_of i) (places u) (places w) ≡ true → Follows i u w
turns_word i u [] from_one turns = tt
turns_word i u (a ∷ w) from_one turns =
    let turn = turn_parts (problem_of i) (places u) (a - 1) (places w) turns in
    let first : 1 ≤ a = All-head (λ b. 1 ≤ b) a w from_one in
    let letter : Contains (letters_after i u) (suc (a - 1)) = letter_from i u (a - 1) turn.0 turn.1 in
    let number : suc (a - 1) ≡ a = omega (arith, first) in (
      subst (Contains (letters_after i u)) number letter,
      turns_word i (u ++ a ∷ []) w (All-tail (λ b. 1 ≤ b) a w from_one) (subst (λ (xs : List ℕ). takes_in_turn (problem_of i) xs (places w) ≡ true) (sym (places_push u a)) turn.2),
    )

-- a word is continued by a letter that may follow
pub word_push : (i : Planned) (u w : List ℕ) (a : ℕ) → Follows i u w → Contains (letters_after i (u ++ w)) a → Follows i u (w ++ a ∷ [])
word_push i u [] a follows may = (subst (λ (xs : List ℕ). Contains (letters_after i xs) a) (append-nil u) may, tt)
word_push i u (b ∷ w) a (here, there) may = (here, word_push i (u ++ b ∷ []) w a there (subst (λ (xs : List ℕ). Contains (letters_after i xs) a) (sym (append_assoc u (b ∷ []) w)) may))

-- a prefix of a word is a word, and the rest follows it
pub word_split : (i : Planned) (u v w : List ℕ) → Follows i u (v ++ w) → Follows i u v × Follows i (u ++ v) w
word_split i u [] w follows = (tt, subst (λ (xs : List ℕ). Follows i xs w) (sym (append-nil u)) follows)
word_split i u (a ∷ v) w (here, there) =
    let rest = word_split i (u ++ a ∷ []) v w there in
    ((here, rest.0), subst (λ (xs : List ℕ). Follows i xs w) (append_assoc u (a ∷ []) v) rest.1)
