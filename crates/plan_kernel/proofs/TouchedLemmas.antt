-- The halves of a conflict: which are listed, and which negations are in a clause.
use Rattle.std.proofs.Common.{◌≡◌, ◌∙◌, ℕ, zero, suc, ◌+◌, ◌≤◌, ◌<◌, ◌⊎◌, inl, inr, Bool, true, nat_eq, List, [], ◌∷◌, ◌++◌, Option, Contains, filter, take, length, get_or, set, sym, ap, subst, arith}
use Rattle.std.proofs.lemmas.Bool.{cases_eq, cond_both, cond-true, ne_eqb, not_from_false}
use Rattle.std.proofs.lemmas.List.{get_or-set_same, get_or-set_other, take_all}
use Rattle.std.proofs.lemmas.List.Elements.{All-weaker, All-more, All-contains, Contains-append_left, Contains-push}
use Rattle.plan_kernel.specs.declared.literal.Literal.{Literal}
use Rattle.plan_kernel.specs.Literals.{at, negated}
use Rattle.plan_kernel.specs.Clauses.{IsListed, IsRaised, IsCovered, Implies, AreCovered, IsNegatedAt, AreNegated, IsNegated, is_other}

-- one literal more is covered, or implies the pivot
pub covered_more : (facts old new : List ℕ) (pivot : Option Literal) (clause : List Literal) (i : ℕ) (d : Literal) → i < length clause
    → AreCovered facts old pivot (take i clause) → IsRaised old new
    → Implies (get_or clause i d) pivot ⊎ IsCovered facts new (negated (get_or clause i d)) → AreCovered facts new pivot (take (i + 1) clause)
covered_more facts old new pivot clause i d inside before raised here =
    All-more Q clause i d inside (All-weaker P Q still (take i clause) before) here where
      P : Literal → Type 0
      P l = Implies l pivot ⊎ IsCovered facts old (negated l)

      Q : Literal → Type 0
      Q l = Implies l pivot ⊎ IsCovered facts new (negated l)

      still : (l : Literal) → P l → Q l
      still l (inl implies) = inl implies
      still l (inr (inl fact)) = inr (inl fact)
      still l (inr (inr value)) = inr (inr (omega (arith, value, raised (negated l).half)))

-- what passes a filter is in what it keeps
contains_filter : (p : ℕ → Bool) (xs : List ℕ) (x : ℕ) → Contains xs x → p x ≡ true → Contains (filter p xs) x
contains_filter p [] x (k, below, is) pass = absurd (omega (arith, below))
contains_filter p (y ∷ xs) x (zero, below, is) pass =
    let kept : filter p (y ∷ xs) ≡ y ∷ filter p xs = cond-true (p y) (y ∷ filter p xs) (filter p xs) (ap p is ∙ pass) in
    subst (λ (zs : List ℕ). Contains zs x) (sym kept) (let there : Contains (y ∷ filter p xs) x = (0, omega arith, is) in there)
contains_filter p (y ∷ xs) x (suc k, below, is) pass =
    let rest = contains_filter p xs x (k, omega (arith, below), is) pass in
    cond_both (p y) (y ∷ filter p xs) (filter p xs) (λ zs. Contains zs x)
    (λ _. (suc rest.0, omega (arith, rest.1), rest.2)) (λ _. rest)

-- where the value of a half is cleared and it is taken out of the list, the others are still listed
pub listed_without : (values touched new : List ℕ) (half : ℕ) → half < length values → IsListed values touched → new ≡ filter (is_other half) touched
    → IsListed (set values half 0) new
listed_without values touched new half inside listed is other some = elim (cases_eq other half) [
  | inl same ↦ absurd (some (ap (at (set values half 0)) same ∙ get_or-set_same values half 0 0 inside))
  | inr apart ↦
      let kept : at (set values half 0) other ≡ at values other = get_or-set_other values half other 0 0 apart in
      let passes : is_other half other ≡ true = not_from_false (nat_eq other half) (ne_eqb other half apart) in
      subst (λ (xs : List ℕ). Contains xs other) (sym is) (contains_filter (is_other half) touched other (listed other (λ none. some (kept ∙ none))) passes)
]

-- the negations of halves are in a longer clause too
pub negated_longer : (values : List ℕ) (clause : List Literal) (l : Literal) (halves : List ℕ) → AreNegated values clause halves → AreNegated values (clause ++ l ∷ []) halves
negated_longer values clause l halves = All-weaker (IsNegatedAt values clause) (IsNegatedAt values (clause ++ l ∷ [])) still halves where
  still : (half : ℕ) → IsNegatedAt values clause half → IsNegatedAt values (clause ++ l ∷ []) half
  still half is some = Contains-append_left clause (l ∷ []) (negated (record { half = half; value = at values half })) (is some)

-- one half more, with its literal
pub negated_more : (values : List ℕ) (clause new : List Literal) (touched : List ℕ) (i value : ℕ) → i < length touched → AreNegated values clause (take i touched)
    → value ≡ at values (get_or touched i 0) → new ≡ clause ++ negated (record { half = get_or touched i 0; value = value }) ∷ [] → AreNegated values new (take (i + 1) touched)
negated_more values clause new touched i value inside before is added =
    All-more (IsNegatedAt values new) touched i 0 inside
    (subst (λ (c : List Literal). AreNegated values c (take i touched)) (sym added) (negated_longer values clause l (take i touched) before))
    (λ some. subst (λ (c : List Literal). Contains c here) (sym added) (subst (λ (m : Literal). Contains (clause ++ l ∷ []) m) same (Contains-push clause l))) where
      half : ℕ
      half = get_or touched i 0

      l : Literal
      l = negated (record { half = half; value = value })

      here : Literal
      here = negated (record { half = half; value = at values half })

      same : l ≡ here
      same = ap (λ (v : ℕ). negated (record { half = half; value = v })) is

-- one half more that has no literal
pub negated_none : (values : List ℕ) (clause : List Literal) (touched : List ℕ) (i value : ℕ) → i < length touched → AreNegated values clause (take i touched)
    → value ≡ at values (get_or touched i 0) → value ≡ 0 → AreNegated values clause (take (i + 1) touched)
negated_none values clause touched i value inside before is none =
    All-more (IsNegatedAt values clause) touched i 0 inside before (λ some. absurd (some (sym is ∙ none)))

-- the negations of all halves
pub negated_all : (values : List ℕ) (clause : List Literal) (touched : List ℕ) (n : ℕ) → length touched ≤ n → IsListed values touched
    → AreNegated values clause (take n touched) → IsNegated values clause
negated_all values clause touched n whole listed are half some =
    All-contains (IsNegatedAt values clause) touched half (subst (λ (xs : List ℕ). AreNegated values clause xs) (take_all n touched whole) are) (listed half some) some
