-- Decidable facts: the least number with a property, an arc with one, the index of the least
-- number.
use Rattle.std.proofs.Common.{ℕ, suc, zero, ◌≡◌, ◌≤◌, ◌<◌, ◌⊎◌, inl, inr, List, [], ◌∷◌, length, get_or, refl, sym, subst, arith}
use Rattle.std.specs.List.{Contains}
use Rattle.std.proofs.lemmas.List.Elements.{Contains-push_cases, Contains-append_cases, Contains-append_right}
use Rattle.std.proofs.lemmas.Bool.{cases_lt, cases_order}
use Rattle.plan_net.specs.Network.{IsLeast}

-- a fact holds, or it doesn't
abbrev pub Decided : Type 0 → Type 0
Decided P = P ⊎ (P → ⊥)

-- two facts hold, or one of them doesn't
pub decide_both : (P Q : Type 0) → Decided P → (P → Decided Q) → Decided (P × Q)
decide_both P Q (inr fails) second = inr (λ both. fails both.0)
decide_both P Q (inl holds) second = by_second (second holds)
  where
    by_second : Decided Q → Decided (P × Q)
    by_second (inl also) = inl (holds, also)
    by_second (inr fails) = inr (λ both. fails both.1)

-- the least number below a limit that has a property, or none has
pub least_below : (P : ℕ → Type 0) → ((n : ℕ) → Decided (P n)) → (limit : ℕ) → ((n : ℕ) × IsLeast P n) ⊎ ((n : ℕ) → n < limit → P n → ⊥)
least_below P decide zero = inr (λ n lower holds. absurd (omega (arith, lower)))
least_below P decide (suc limit) = by_rest (least_below P decide limit) (decide limit)
  where
    by_rest : ((n : ℕ) × IsLeast P n) ⊎ ((n : ℕ) → n < limit → P n → ⊥) → Decided (P limit)
        → ((n : ℕ) × IsLeast P n) ⊎ ((n : ℕ) → n < suc limit → P n → ⊥)
    by_rest (inl found) last = inl found
    by_rest (inr none) (inl holds) = inl (limit, (holds, λ v has. least v has (cases_lt v limit)))
      where
        least : (v : ℕ) → P v → (v < limit) ⊎ (limit ≤ v) → limit ≤ v
        least v has (inl lower) = absurd (none v lower has)
        least v has (inr higher) = higher
    by_rest (inr none) (inr fails) = inr (λ n lower holds. at n lower holds (cases_order n limit))
      where
        at : (n : ℕ) → n < suc limit → P n → (n ≡ limit) ⊎ ((n < limit) ⊎ (limit < n)) → ⊥
        at n lower holds (inl same) = fails (subst P same holds)
        at n lower holds (inr (inl below)) = none n below holds
        at n lower holds (inr (inr above)) = absurd (omega (arith, lower, above))

-- an element of a list is its head or in its tail
pub in_cons : {A : Type 0} (x : A) (xs : List A) (y : A) → Contains (x ∷ xs) y → (x ≡ y) ⊎ Contains xs y
in_cons x xs y has = elim (Contains-append_cases (x ∷ []) xs y has) [
  | inl here ↦ elim (Contains-push_cases [] x y here) [
    | inl nothing ↦ absurd (omega (arith, nothing.1))
    | inr same ↦ inl same
  ]
  | inr later ↦ inr later
]

-- an element of a list has a property, or none has
pub some_element : {A : Type 0} (P : A → Type 0) → ((x : A) → Decided (P x)) → (xs : List A)
    → ((x : A) × Contains xs x × P x) ⊎ ((x : A) → Contains xs x → P x → ⊥)
some_element P decide [] = inr (λ x has holds. absurd (omega (arith, has.1)))
some_element {A = A} P decide (y ∷ xs) = by_first (decide y) (some_element P decide xs)
  where
    by_first : Decided (P y) → ((x : A) × Contains xs x × P x) ⊎ ((x : A) → Contains xs x → P x → ⊥)
        → ((x : A) × Contains (y ∷ xs) x × P x) ⊎ ((x : A) → Contains (y ∷ xs) x → P x → ⊥)
    by_first (inl holds) rest = inl (y, (0, omega arith, refl), holds)
    by_first (inr fails) (inl (x, later, holds)) = inl (x, Contains-append_right (y ∷ []) xs x later, holds)
    by_first (inr fails) (inr none) = inr (λ x has holds. at x holds (in_cons y xs x has))
      where
        at : (x : A) → P x → (y ≡ x) ⊎ Contains xs x → ⊥
        at x holds (inl same) = fails (subst P (sym same) holds)
        at x holds (inr later) = none x later holds

-- the index of the least number of a list
pub place_of_least : (first : ℕ) (others : List ℕ) → (m : ℕ) × (m < length (first ∷ others)) × ((k : ℕ) → k < length (first ∷ others) → get_or (first ∷ others) m 0 ≤ get_or (first ∷ others) k 0)
place_of_least first [] = (0, omega arith, λ k within. only k within)
  where
    only : (k : ℕ) → k < length (first ∷ []) → first ≤ get_or (first ∷ []) k 0
    only zero within = omega arith
    only (suc k) within = absurd (omega (arith, within))
place_of_least first (x ∷ others) = by_order (place_of_least x others)
  where
    by_order : (m : ℕ) × (m < length (x ∷ others)) × ((k : ℕ) → k < length (x ∷ others) → get_or (x ∷ others) m 0 ≤ get_or (x ∷ others) k 0)
        → (m : ℕ) × (m < length (first ∷ x ∷ others)) × ((k : ℕ) → k < length (first ∷ x ∷ others) → get_or (first ∷ x ∷ others) m 0 ≤ get_or (first ∷ x ∷ others) k 0)
    by_order (m, within, least) = elim (cases_lt (get_or (x ∷ others) m 0) first) [
      | inl lower ↦ (suc m, omega (arith, within), λ k inside. rest k inside lower)
      | inr higher ↦ (0, omega arith, λ k inside. front k inside higher)
    ]
      where
        rest : (k : ℕ) → k < length (first ∷ x ∷ others) → get_or (x ∷ others) m 0 < first → get_or (x ∷ others) m 0 ≤ get_or (first ∷ x ∷ others) k 0
        rest zero inside lower = omega (arith, lower)
        rest (suc k) inside lower = least k (omega (arith, inside))

        front : (k : ℕ) → k < length (first ∷ x ∷ others) → first ≤ get_or (x ∷ others) m 0 → first ≤ get_or (first ∷ x ∷ others) k 0
        front zero inside higher = omega arith
        front (suc k) inside higher = omega (arith, higher, least k (omega (arith, inside)))
