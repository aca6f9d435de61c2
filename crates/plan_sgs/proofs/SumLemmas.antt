-- Sums of needs at one instant, beside the capacities.
use Rattle.std.proofs.Common.{ℕ, ◌≡◌, ◌+◌, ◌-◌, ◌≤◌, ◌<◌, inl, inr, List, length, get_or, replicate, ◌∙◌, ap, subst, arith}
use Rattle.std.specs.List.{All, EachIndex}
use Rattle.std.proofs.lemmas.Bool.{cases_lt}
use Rattle.std.proofs.lemmas.List.{length-replicate, get_or-replicate, get_or_past}
use Rattle.plan_psplib.specs.Tokens.{greatest}
use Rattle.plan_sgs.specs.Problem.{Problem, capacity, usage, all_placed}
use Rattle.plan_sgs.specs.Instances.{IsFirstAbove}
use Rattle.plan_sgs.specs.Verdicts.{IsOver}
use Rattle.plan_sgs.specs.Checks.{AreNeedsAt}
use Rattle.plan_sgs.proofs.StartLemmas.{AreSums}

-- no amount is above the greatest
pub amounts_small : (row : List ℕ) → All (λ amount. amount ≤ greatest) row → (k : ℕ) → get_or row k 0 ≤ 10000
amounts_small row small k = elim (cases_lt k (length row)) [
  | inl within ↦ small k 0 within
  | inr past ↦ omega (arith, get_or_past row k 0 past)
]

-- the sum of the needs of no activity is 0
pub sums_none : (p : Problem) (s : List ℕ) (t n : ℕ) (sums : List ℕ) → sums ≡ replicate n 0 → n ≡ length p.capacities → AreSums p s t 0 sums
sums_none p s t n sums is wide = record {
  wide = ap length is ∙ length-replicate {A = ℕ} n 0 ∙ wide;
  each = λ k within. none k;
  limit = λ k. omega (arith, none k);
} where
  none : (k : ℕ) → get_or sums k 0 ≡ 0
  none k = elim (cases_lt k n) [
    | inl within ↦ ap (λ (xs : List ℕ). get_or xs k 0) is ∙ get_or-replicate n k 0 0 within
    | inr past ↦ ap (λ (xs : List ℕ). get_or xs k 0) is ∙ get_or_past (replicate n 0) k 0 (omega (arith, past, length-replicate {A = ℕ} n 0))
  ]

-- the usage of a resource exceeds its capacity
pub over_above : (p : Problem) (s : List ℕ) (t : ℕ) (needs caps : List ℕ) (k : ℕ) → AreNeedsAt p s t needs → caps ≡ p.capacities → IsFirstAbove needs caps k → IsOver p s t (k + 1 - 1)
over_above p s t needs caps k are same (within, above, before) =
    let inside : k < length p.capacities = omega (arith, within, ap length same) in
    let over : IsOver p s t k = record { inside = inside; more = omega (arith, above, are.each k inside, ap (λ (xs : List ℕ). get_or xs k 0) same) } in
    subst (λ (x : ℕ). IsOver p s t x) (let e : k ≡ k + 1 - 1 = omega arith in e) over

-- is the first one
pub over_first : (p : Problem) (s : List ℕ) (t : ℕ) (needs caps : List ℕ) (k : ℕ) → AreNeedsAt p s t needs → caps ≡ p.capacities → IsFirstAbove needs caps k → (l : ℕ) → IsOver p s t l → k + 1 - 1 ≤ l
over_first p s t needs caps k are same (within, above, before) l over = elim (cases_lt l k) [
  | inr later ↦ omega (arith, later)
  | inl earlier ↦
      let most : capacity p l < usage p (all_placed s) t l = over.more in
      absurd (omega (arith, most, before l earlier, are.each l over.inside, ap (λ (xs : List ℕ). get_or xs l 0) same))
]

-- if there is no such resource, none is overloaded
pub over_none : (p : Problem) (s : List ℕ) (t : ℕ) (needs caps : List ℕ) → AreNeedsAt p s t needs →
    caps ≡ p.capacities → EachIndex caps (λ k. get_or needs k 0 ≤ get_or caps k 0) → (l : ℕ) →
    IsOver p s t l → ⊥
over_none p s t needs caps are same within l over =
    let most : capacity p l < usage p (all_placed s) t l = over.more in
    omega (arith, most, within l (omega (arith, over.inside, ap length same)), are.each l over.inside, ap (λ (xs : List ℕ). get_or xs l 0) same)
