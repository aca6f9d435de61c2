-- Intervals that don't overlap take no more room than there is.
use Rattle.std.proofs.Common.{◌≡◌, ℕ, zero, suc, ◌+◌, ◌-◌, ◌≤◌, ◌<◌, min, ◌⊎◌, inl, inr, List, [], ◌∷◌, refl, ap, arith}
use Rattle.std.specs.List.{AllByRecursion, sum_by}
use Rattle.std.proofs.lemmas.Bool.{cases_lt}
use Rattle.std.proofs.lemmas.List.Sums.{sum_by-cons}
use Rattle.plan_shop.proofs.NumberLemmas.{InOrder}

-- the one interval ends before the other begins, or the other way round
abbrev pub IsClear : (ℕ → ℕ) → (ℕ → ℕ) → ℕ → ℕ → Type 0
IsClear starts times x y = (starts x + times x ≤ starts y) ⊎ (starts y + times y ≤ starts x)

-- the part of the intervals before an instant
abbrev covered : (ℕ → ℕ) → (ℕ → ℕ) → ℕ → List ℕ → ℕ
covered starts times t [] = 0
covered starts times t (z ∷ zs) = (min t (starts z + times z) - starts z) + covered starts times t zs

-- the parts of intervals that don't overlap one that lasts at an instant don't grow there
covered_same : (starts times : ℕ → ℕ) (t x : ℕ) (zs : List ℕ) → starts x ≤ t → t < starts x + times x →
    AllByRecursion (IsClear starts times x) zs → covered starts times (suc t) zs ≡ covered starts times t zs
covered_same starts times t x [] since before clear = refl
covered_same starts times t x (z ∷ zs) since before clear =
    let rest : covered starts times (suc t) zs ≡ covered starts times t zs = covered_same starts times t x zs since before clear.1 in
    elim clear.0 [
      | inl after ↦ omega (arith, rest, since, before, after)
      | inr over ↦ omega (arith, rest, since, before, over)
    ]

-- from one instant to the next at most one grows
covered_next : (starts times : ℕ → ℕ) (t : ℕ) (zs : List ℕ) → InOrder (IsClear starts times) zs → covered starts times (suc t) zs ≤ suc (covered starts times t zs)
covered_next starts times t [] clear = omega arith
covered_next starts times t (z ∷ zs) clear = elim (cases_lt t (starts z)) [
  | inl early ↦ omega (arith, early, covered_next starts times t zs clear.1)
  | inr since ↦ elim (cases_lt t (starts z + times z)) [
    | inl lasts ↦ omega (arith, since, lasts, covered_same starts times t z zs since lasts clear.0)
    | inr over ↦ omega (arith, since, over, covered_next starts times t zs clear.1)
  ]
]

-- no part is before the start of all
covered_none : (starts times : ℕ → ℕ) (h : ℕ) (zs : List ℕ) → AllByRecursion (λ z. h ≤ starts z) zs → covered starts times h zs ≡ 0
covered_none starts times h [] late = refl
covered_none starts times h (z ∷ zs) late = omega (arith, late.0, covered_none starts times h zs late.1)

covered_most : (starts times : ℕ → ℕ) (h n : ℕ) (zs : List ℕ) → InOrder (IsClear starts times) zs → AllByRecursion (λ z. h ≤ starts z) zs → covered starts times (h + n) zs ≤ n
covered_most starts times h zero zs clear late = let same : h + 0 ≡ h = omega arith in omega (arith, covered_none starts times h zs late, ap (λ t. covered starts times t zs) same)
covered_most starts times h (suc n) zs clear late =
    let next : h + suc n ≡ suc (h + n) = omega arith in
    omega (arith, covered_most starts times h n zs clear late, covered_next starts times (h + n) zs clear, ap (λ t. covered starts times t zs) next)

-- all parts are before the end of all
covered_all : (starts times : ℕ → ℕ) (e : ℕ) (zs : List ℕ) → AllByRecursion (λ z. starts z + times z ≤ e) zs → covered starts times e zs ≡ sum_by times zs
covered_all starts times e [] early = refl
covered_all starts times e (z ∷ zs) early = omega (arith, early.0, covered_all starts times e zs early.1, sum_by-cons times z zs)

-- intervals that don't overlap, between two instants, together last at most the time between the
-- two
pub span : (starts times : ℕ → ℕ) (h e : ℕ) (zs : List ℕ) → h ≤ e → InOrder (IsClear starts times) zs →
    AllByRecursion (λ z. h ≤ starts z) zs → AllByRecursion (λ z. starts z + times z ≤ e) zs →
    h + sum_by times zs ≤ e
span starts times h e zs order clear late early =
    let all : h + (e - h) ≡ e = omega (arith, order) in
    omega (arith, order, covered_most starts times h (e - h) zs clear late, covered_all starts times e zs early, ap (λ t. covered starts times t zs) all)
