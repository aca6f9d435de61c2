-- The instants at which needs fit, from one change of usage to the next.
use Rattle.std.proofs.Common.{ℕ, zero, suc, ◌≡◌, ◌+◌, ◌-◌, ◌≤◌, ◌<◌, inl, inr, List, length, get_or, ap, arith}
use Rattle.std.specs.Prelude.{Contains}
use Rattle.std.proofs.lemmas.Bool.{cases_lt, cases_eq}
use Rattle.std.proofs.lemmas.List.{get_or_default}
use Rattle.plan_profile.specs.Usage.{Fits, IsChange, IsRising}

-- needs that fit at an instant and at each change behind it fit at the instants between
fit_at : (caps : List ℕ) (used : ℕ → ℕ → ℕ) (from x : ℕ) (needs : List ℕ) → Fits caps used from 1 needs
    → ((u : ℕ) → from < u → u < from + x → IsChange (length caps) used u → Fits caps used u 1 needs)
    → (y k : ℕ) → y < x → k < length caps → used (from + y) k + get_or needs k 0 ≤ get_or caps k 0
fit_at caps used from x needs first each zero k below within = first 0 k (omega arith) within
fit_at caps used from x needs first each (suc y) k below within =
    let before = fit_at caps used from x needs first each y k (omega (arith, below)) within in
    let at : from + suc y ≡ suc (from + y) = omega arith in
    elim (cases_eq (used (suc (from + y)) k) (used (from + y) k)) [
      | inl same ↦ omega (arith, ap (λ (u : ℕ). used u k) at, same, before)
      | inr apart ↦
          let here = each (suc (from + y)) (omega arith) (omega (arith, below)) (k, within, apart) 0 k (omega arith) within in
          let there : suc (from + y) + 0 ≡ from + suc y = omega arith in
          omega (arith, here, ap (λ (u : ℕ). used u k) there)
    ]

pub fits_until : (caps : List ℕ) (used : ℕ → ℕ → ℕ) (from x : ℕ) (needs : List ℕ) → Fits caps used from 1 needs
    → ((u : ℕ) → from < u → u < from + x → IsChange (length caps) used u → Fits caps used u 1 needs) → Fits caps used from x needs
fits_until = fit_at

-- needs that fit in an interval fit at each of its instants
pub fits_inside : (caps : List ℕ) (used : ℕ → ℕ → ℕ) (from x u : ℕ) (needs : List ℕ) → from ≤ u → u < from + x → Fits caps used from x needs → Fits caps used u 1 needs
fits_inside caps used from x u needs since before fits y k below within =
    let at : from + (u - from) ≡ u + y = omega (arith, since, below) in
    omega (arith, fits (u - from) k (omega (arith, since, before)) within, ap (λ (t : ℕ). used t k) at)

-- the index of an instant
pub index_at : (xs : List ℕ) (u : ℕ) → Contains xs u → (m : ℕ) × (m < length xs) × (get_or xs m 0 ≡ u)
index_at xs u there = (there.0, there.1, omega (arith, there.2, get_or_default xs there.0 u 0 there.1))

-- in rising order an instant before that at an index has a lower index
pub index_below : (xs : List ℕ) (n u : ℕ) → IsRising xs → n < length xs → Contains xs u → u < get_or xs n 0 → (m : ℕ) × (m < n) × (get_or xs m 0 ≡ u)
index_below xs n u rising inside there before =
    let found = index_at xs u there in
    let m = found.0 in
    elim (cases_lt m n) [
      | inl low ↦ (m, low, found.2)
      | inr high ↦ elim (cases_eq m n) [
        | inl same ↦ absurd (omega (arith, ap (λ (i : ℕ). get_or xs i 0) same, found.2, before))
        | inr apart ↦ absurd (omega (arith, rising n m (omega (arith, high, apart)) found.1, found.2, before))
      ]
    ]
