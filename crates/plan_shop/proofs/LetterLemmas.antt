-- Lists of the numbers that pass a test, and the letters that may follow.
use Rattle.std.proofs.Common.{◌≡◌, ℕ, zero, suc, ◌<◌, ◌&&◌, inl, inr, Bool, true, false, cond, List, [], ◌∷◌, ◌++◌, Option, Some, None, map, refl, sym, ap, ◌∙◌, subst, append-nil, append_assoc, arith}
use Rattle.std.proofs.lemmas.List.{map-append}
use Rattle.std.specs.Prelude.{Contains, nat_eq, nat_lt}
use Rattle.std.proofs.lemmas.Bool.{cases_eq, cond-true, cond-false, lt-ltb, le-ltb}
use Rattle.plan_shop.specs.Shop.{JobShop, time_of, machine_of, those_below}
use Rattle.plan_shop.specs.Words.{Placed, has_next, next_step, next_end, first_least, with_next, with_zero, rivals, rivals_of_first, jobs_by, jobs_after, letter_of, letters_after}
use Rattle.plan_shop.specs.Trees.{Standing, placed, is_rival, IsFirstIn, IsFirstToEnd, IsSooner}
use Rattle.plan_shop.proofs.NumberLemmas.{there_passes, first_least_in}

pub those-yes : (n : ℕ) (f : ℕ → Bool) → f n ≡ true → those_below (suc n) f ≡ those_below n f ++ n ∷ []
those-yes n f passes = ap (λ xs. those_below n f ++ xs) (cond-true (f n) (n ∷ []) [] passes)

pub those-no : (n : ℕ) (f : ℕ → Bool) → f n ≡ false → those_below (suc n) f ≡ those_below n f
those-no n f fails = ap (λ xs. those_below n f ++ xs) (cond-false (f n) (n ∷ []) [] fails) ∙ append-nil (those_below n f)

pub those-none : (n : ℕ) (f : ℕ → Bool) → ((i : ℕ) → i < n → f i ≡ false) → those_below n f ≡ []
those-none zero f none = refl
those-none (suc n) f none = those-no n f (none n (omega arith)) ∙ those-none n f (λ i below. none i (omega (arith, below)))

-- one more fails
pub none-more : (n : ℕ) (f : ℕ → Bool) → ((i : ℕ) → i < n → f i ≡ false) → f n ≡ false → (i : ℕ) → i < suc n → f i ≡ false
none-more n f none fails i below = elim (cases_eq i n) [
  | inl same ↦ ap f same ∙ fails
  | inr other ↦ none i (omega (arith, below, other))
]

-- the first that passes
pub those-first : (n : ℕ) (f : ℕ → Bool) (j : ℕ) → j < n → ((i : ℕ) → i < j → f i ≡ false) → f j ≡ true → (zs : List ℕ) × (those_below n f ≡ j ∷ zs)
those-first zero f j below none passes = absurd (omega (arith, below))
those-first (suc n) f j below none passes = elim (cases_eq j n) [
  | inl same ↦
      let before : those_below n f ≡ [] = those-none n f (λ i low. none i (omega (arith, low, same))) in
      ([], those-yes n f (ap f (sym same) ∙ passes) ∙ ap (λ xs. xs ++ n ∷ []) before ∙ ap (λ i. i ∷ []) (sym same))
  | inr other ↦
      let rest = those-first n f j (omega (arith, below, other)) none passes in
      (rest.0 ++ cond (f n) (n ∷ []) [], ap (λ xs. xs ++ cond (f n) (n ∷ []) []) rest.1)
]

-- ---- a step that takes no time

-- the first job whose next step takes no time may follow alone
pub at_once-first : (s : JobShop) (xs : List Placed) (j : ℕ) → j < s.jobs →
    ((i : ℕ) → i < j → (has_next s xs i && nat_eq (time_of s (next_step s xs i)) 0) ≡ false) →
    (has_next s xs j && nat_eq (time_of s (next_step s xs j)) 0) ≡ true → jobs_after s xs ≡ j ∷ []
unfolding jobs_after
at_once-first s xs j below none passes =
    let zeros = those-first s.jobs (λ i. has_next s xs i && nat_eq (time_of s (next_step s xs i)) 0) j below none passes in
    ap (λ zs. jobs_by s xs zs) zeros.1

-- ---- the step that would end first

fold-more : (key : ℕ → ℕ) (x : ℕ) (ys : List ℕ) (z : ℕ) → first_least key x (ys ++ z ∷ []) ≡ cond (nat_lt (key z) (key (first_least key x ys))) z (first_least key x ys)
fold-more key x [] z = refl
fold-more key x (y ∷ ys) z = fold-more key (cond (nat_lt (key y) (key x)) y x) ys z

-- the first to end of the jobs so far, if there is one
pub IsSoFar : Standing → ℕ → Option (ℕ × ℕ) → Type 0
IsSoFar t n None = those_below n (has_next t.shop (placed t)) ≡ []
IsSoFar t n (Some first) = IsFirstIn t (those_below n (has_next t.shop (placed t))) first

pub so_far-none : (t : Standing) (n : ℕ) → those_below n (has_next t.shop (placed t)) ≡ [] → IsSoFar t n None
unfolding IsSoFar
so_far-none t n none = none

pub so_far-skips : (t : Standing) (n : ℕ) (first : Option (ℕ × ℕ)) → IsSoFar t n first → has_next t.shop (placed t) n ≡ false → IsSoFar t (suc n) first
unfolding IsSoFar
so_far-skips t n None is none = those-no n (has_next t.shop (placed t)) none ∙ is
so_far-skips t n (Some first) is none = record { head = is.head; rest = is.rest; list = those-no n (has_next t.shop (placed t)) none ∙ is.list; job = is.job; end = is.end }

pub so_far-more : (t : Standing) (n end : ℕ) (first : Option (ℕ × ℕ)) (chosen : ℕ × ℕ) → IsSoFar t n first →
    has_next t.shop (placed t) n ≡ true → end ≡ next_end t.shop (placed t) n →
    IsSooner first (n, end) chosen → IsSoFar t (suc n) (Some chosen)
unfolding IsSoFar
so_far-more t n end None chosen is next end_is sooner =
    let Q : ℕ × ℕ → Type 0 = λ r. IsSoFar t (suc n) (Some r) in
    subst Q (sym sooner) (record { head = n; rest = []; list = those-yes n (has_next t.shop (placed t)) next ∙ ap (λ xs. xs ++ n ∷ []) is; job = refl; end = end_is })
so_far-more t n end (Some first) chosen is next end_is sooner =
    let key : ℕ → ℕ = next_end t.shop (placed t) in
    let list : those_below (suc n) (has_next t.shop (placed t)) ≡ is.head ∷ (is.rest ++ n ∷ []) = those-yes n (has_next t.shop (placed t)) next ∙ ap (λ xs. xs ++ n ∷ []) is.list in
    let least : first.1 ≡ key (first_least key is.head is.rest) = is.end ∙ ap key is.job in
    let Q : ℕ × ℕ → Type 0 = λ r. IsSoFar t (suc n) (Some r) in
    elim sooner [
      | inl (earlier, same) ↦
          let kept : nat_lt (key n) (key (first_least key is.head is.rest)) ≡ false = le-ltb (key n) (key (first_least key is.head is.rest)) (omega (arith, earlier, end_is, least)) in
          subst Q (sym same) (record {
            head = is.head;
            rest = is.rest ++ n ∷ [];
            list = list;
            job = is.job ∙ sym (cond-false (nat_lt (key n) (key (first_least key is.head is.rest))) n (first_least key is.head is.rest) kept) ∙ sym (fold-more key is.head is.rest n);
            end = is.end;
          })
      | inr (earlier, same) ↦
          let taken : nat_lt (key n) (key (first_least key is.head is.rest)) ≡ true = lt-ltb (key n) (key (first_least key is.head is.rest)) (omega (arith, earlier, end_is, least)) in
          subst Q (sym same) (record {
            head = is.head;
            rest = is.rest ++ n ∷ [];
            list = list;
            job = sym (cond-true (nat_lt (key n) (key (first_least key is.head is.rest))) n (first_least key is.head is.rest) taken) ∙ sym (fold-more key is.head is.rest n);
            end = end_is;
          })
    ]

pub so_far-some : (t : Standing) (n : ℕ) (first : ℕ × ℕ) → IsSoFar t n (Some first) → n ≡ t.shop.jobs → IsFirstToEnd t first
unfolding IsSoFar
so_far-some t n first is all = record { head = is.head; rest = is.rest; list = ap (λ m. those_below m (has_next t.shop (placed t))) (sym all) ∙ is.list; job = is.job; end = is.end }

pub so_far-empty : (t : Standing) (n : ℕ) → IsSoFar t n None → n ≡ t.shop.jobs → with_next t.shop (placed t) ≡ []
unfolding IsSoFar
so_far-empty t n is all = ap (λ m. those_below m (has_next t.shop (placed t))) (sym all) ∙ is

-- that job has a next step
pub first-next : (t : Standing) (first : ℕ × ℕ) → IsFirstToEnd t first → (first.0 < t.shop.jobs) × (has_next t.shop (placed t) first.0 ≡ true)
first-next t first is =
    let Q : List ℕ → Type 0 = λ xs. Contains xs first.0 in
    let R : ℕ → Type 0 = λ x. Contains (is.head ∷ is.rest) x in
    let there : Contains (is.head ∷ is.rest) first.0 = subst R (sym is.job) (first_least_in (next_end t.shop (placed t)) is.head is.rest) in
    there_passes t.shop.jobs (has_next t.shop (placed t)) first.0 (subst Q (sym is.list) there)

-- ---- all letters

pub letters-none : (t : Standing) → with_zero t.shop (placed t) ≡ [] → with_next t.shop (placed t) ≡ [] → letters_after t.shop (placed t) ≡ []
unfolding jobs_after
letters-none t zeros none = ap (λ zs. map letter_of (jobs_by t.shop (placed t) zs)) zeros ∙ ap (λ js. map letter_of (rivals_of_first t.shop (placed t) js)) none

pub letters-rivals : (t : Standing) (first : ℕ × ℕ) (machine : ℕ) → with_zero t.shop (placed t) ≡ [] →
    IsFirstToEnd t first → machine ≡ machine_of t.shop (next_step t.shop (placed t) first.0) →
    letters_after t.shop (placed t) ≡ map letter_of (those_below t.shop.jobs (is_rival t machine first.1))
unfolding jobs_after
letters-rivals t first machine zeros is machine_is =
    ap (λ zs. map letter_of (jobs_by t.shop (placed t) zs)) zeros
    ∙ ap (λ js. map letter_of (rivals_of_first t.shop (placed t) js)) is.list
    ∙ ap (λ b. map letter_of (rivals t.shop (placed t) b)) (sym is.job)
    ∙ ap (λ m. map letter_of (those_below t.shop.jobs (is_rival t m (next_end t.shop (placed t) first.0)))) (sym machine_is)
    ∙ ap (λ e. map letter_of (those_below t.shop.jobs (is_rival t machine e))) (sym is.end)

-- one more job among the rivals
pub rivals-yes : (t : Standing) (machine end n : ℕ) (old list new : List ℕ) →
    list ≡ old ++ map letter_of (those_below n (is_rival t machine end)) → is_rival t machine end n ≡ true →
    new ≡ list ++ suc n ∷ [] → new ≡ old ++ map letter_of (those_below (suc n) (is_rival t machine end))
rivals-yes t machine end n old list new so_far passes is =
    is ∙ ap (λ xs. xs ++ suc n ∷ []) so_far ∙ append_assoc old (map letter_of (those_below n (is_rival t machine end))) (suc n ∷ [])
    ∙ ap (λ xs. old ++ xs) (sym (map-append letter_of (those_below n (is_rival t machine end)) (n ∷ [])))
    ∙ ap (λ xs. old ++ map letter_of xs) (sym (those-yes n (is_rival t machine end) passes))

pub rivals-no : (t : Standing) (machine end n : ℕ) (old list : List ℕ) →
    list ≡ old ++ map letter_of (those_below n (is_rival t machine end)) → is_rival t machine end n ≡ false →
    list ≡ old ++ map letter_of (those_below (suc n) (is_rival t machine end))
rivals-no t machine end n old list so_far fails = so_far ∙ ap (λ xs. old ++ map letter_of xs) (sym (those-no n (is_rival t machine end) fails))
