-- Laws of sums, greatest numbers and tests over the numbers below one.
use Rattle.std.proofs.Common.{ℕ, zero, suc, Bool, true, false, ◌≡◌, ◌≢◌, ◌+◌, ◌*◌, ◌≤◌, ◌<◌, inl, inr, refl, sym, ◌∙◌, ap, arith}
use Rattle.std.proofs.lemmas.Bool.{cases_lt, cases_eq, cases_Bool, both_ways, true≢false, and_parts, and_from, and_cases}
use Rattle.std.proofs.Math.Nat.{mul-suc}
use Rattle.plan_sgs.specs.Problem.{total, greatest_below, all_below}

-- sums of equal terms
pub total_same : (n : ℕ) (f g : ℕ → ℕ) → ((i : ℕ) → i < n → f i ≡ g i) → total n f ≡ total n g
total_same zero f g same = refl
total_same (suc n) f g same = omega (arith, total_same n f g (λ i below. same i (omega (arith, below))), same n (omega arith))

-- sums of terms that are no less
pub total_grows : (n : ℕ) (f g : ℕ → ℕ) → ((i : ℕ) → i < n → f i ≤ g i) → total n f ≤ total n g
total_grows zero f g most = omega arith
total_grows (suc n) f g most = omega (arith, total_grows n f g (λ i below. most i (omega (arith, below))), most n (omega arith))

-- a sum of terms that are all 0
pub total_none : (n : ℕ) (f : ℕ → ℕ) → ((i : ℕ) → i < n → f i ≡ 0) → total n f ≡ 0
total_none zero f none = refl
total_none (suc n) f none = omega (arith, total_none n f (λ i below. none i (omega (arith, below))), none n (omega arith))

-- no term is above the sum
pub total_above : (n : ℕ) (f : ℕ → ℕ) (i : ℕ) → i < n → f i ≤ total n f
total_above zero f i below = absurd (omega arith)
total_above (suc n) f i below = elim (cases_eq i n) [
  | inl same ↦ omega (arith, ap f same)
  | inr other ↦ omega (arith, total_above n f i (omega (arith, below, other)))
]

-- the sum of two sums
pub total_plus : (n : ℕ) (f g : ℕ → ℕ) → total n (λ i. f i + g i) ≡ total n f + total n g
total_plus zero f g = refl
total_plus (suc n) f g = omega (arith, total_plus n f g)

-- a sum of terms that have a limit
pub total_limit : (n : ℕ) (f : ℕ → ℕ) (most : ℕ) → ((i : ℕ) → i < n → f i ≤ most) → total n f ≤ most * n
total_limit zero f most limit = omega arith
total_limit (suc n) f most limit =
    let more : most * suc n ≡ most * n + most = mul-suc most n in
    omega (arith, total_limit n f most (λ i below. limit i (omega (arith, below))), limit n (omega arith), more)

-- if one term is larger by c and all others are the same, so is the sum
pub total_changed : (n : ℕ) (f g : ℕ → ℕ) (j c : ℕ) → j < n → ((i : ℕ) → i < n → i ≢ j → f i ≡ g i) → f j + c ≡ g j → total n f + c ≡ total n g
total_changed zero f g j c below others more = absurd (omega arith)
total_changed (suc n) f g j c below others more = elim (cases_eq j n) [
  | inl same ↦
      let rest : total n f ≡ total n g = total_same n f g (λ i low. others i (omega (arith, low)) (λ e. omega (arith, low, e, same))) in
      omega (arith, rest, ap f same, ap g same, more)
  | inr other ↦
      let rest : total n f + c ≡ total n g = total_changed n f g j c (omega (arith, below, other)) (λ i low. others i (omega (arith, low))) more in
      let last : f n ≡ g n = others n (omega arith) (λ e. other (sym e)) in
      omega (arith, rest, last)
]

-- if a sum is larger, one of its terms is
pub total_rise : (n : ℕ) (f g : ℕ → ℕ) → total n f < total n g → (i : ℕ) × (i < n) × (f i < g i)
total_rise zero f g rise = absurd (omega (arith, rise))
total_rise (suc n) f g rise = elim (cases_lt (f n) (g n)) [
  | inl here ↦ (n, omega arith, here)
  | inr not_here ↦
      let before = total_rise n f g (omega (arith, rise, not_here)) in
      (before.0, omega (arith, before.1), before.2)
]

-- the sum is less than n if no term is above 1 and one is 0
pub total_short : (n : ℕ) (f : ℕ → ℕ) (i : ℕ) → ((i : ℕ) → f i ≤ 1) → f i < 1 → i < n → total n f < n
total_short zero f i most none below = absurd (omega arith)
total_short (suc n) f i most none below = elim (cases_eq i n) [
  | inl same ↦
      let rest : total n f ≤ 1 * n = total_limit n f 1 (λ k low. most k) in
      omega (arith, rest, ap f same, none)
  | inr other ↦ omega (arith, total_short n f i most none (omega (arith, below, other)), most n)
]

-- terms of at most 1 that make n are all 1
pub total_full : (n : ℕ) (f : ℕ → ℕ) (i : ℕ) → ((i : ℕ) → f i ≤ 1) → n ≤ total n f → i < n → f i ≡ 1
total_full n f i most all below = elim (cases_lt (f i) 1) [
  | inr some ↦ omega (arith, some, most i)
  | inl none ↦ absurd (omega (arith, all, total_short n f i most none below))
]

-- a bound of each value is a bound of the greatest
pub greatest_least : (n : ℕ) (f : ℕ → ℕ) (most : ℕ) → ((i : ℕ) → i < n → f i ≤ most) → greatest_below n f ≤ most
greatest_least zero f most limit = omega arith
greatest_least (suc n) f most limit = omega (arith, greatest_least n f most (λ i below. limit i (omega (arith, below))), limit n (omega arith))

-- the greatest is above each
pub greatest_above : (n : ℕ) (f : ℕ → ℕ) (i : ℕ) → i < n → f i ≤ greatest_below n f
greatest_above zero f i below = absurd (omega arith)
greatest_above (suc n) f i below = elim (cases_eq i n) [
  | inl same ↦ omega (arith, ap f same)
  | inr other ↦ omega (arith, greatest_above n f i (omega (arith, below, other)))
]

-- the greatest is one of them
pub greatest_reached : (n : ℕ) (f : ℕ → ℕ) → 0 < n → (i : ℕ) × (i < n) × (greatest_below n f ≡ f i)
greatest_reached zero f some = absurd (omega (arith, some))
greatest_reached (suc zero) f some = (0, omega arith, omega arith)
greatest_reached (suc (suc n)) f some = elim (cases_lt (greatest_below (suc n) f) (f (suc n))) [
  | inl last ↦ (suc n, omega arith, omega (arith, last))
  | inr before ↦
      let rest = greatest_reached (suc n) f (omega arith) in
      (rest.0, omega (arith, rest.1), omega (arith, before, rest.2))
]

-- the greatest of numbers that are no less
pub greatest_grows : (n : ℕ) (f g : ℕ → ℕ) → ((i : ℕ) → i < n → f i ≤ g i) → greatest_below n f ≤ greatest_below n g
greatest_grows n f g most = greatest_least n f (greatest_below n g) (λ i below. omega (arith, most i below, greatest_above n g i below))

-- the greatest of equal numbers
pub greatest_same : (n : ℕ) (f g : ℕ → ℕ) → ((i : ℕ) → i < n → f i ≡ g i) → greatest_below n f ≡ greatest_below n g
greatest_same zero f g same = refl
greatest_same (suc n) f g same = omega (arith, greatest_same n f g (λ i below. same i (omega (arith, below))), same n (omega arith))

-- a test that passes at each number below n passes there
pub all_below_at : (n : ℕ) (f : ℕ → Bool) (i : ℕ) → all_below n f ≡ true → i < n → f i ≡ true
all_below_at zero f i all below = absurd (omega arith)
all_below_at (suc n) f i all below = elim (cases_eq i n) [
  | inl same ↦ ap f same ∙ (and_parts (all_below n f) (f n) all).1
  | inr other ↦ all_below_at n f i (and_parts (all_below n f) (f n) all).0 (omega (arith, below, other))
]

pub all_below_from : (n : ℕ) (f : ℕ → Bool) → ((i : ℕ) → i < n → f i ≡ true) → all_below n f ≡ true
all_below_from zero f each = refl
all_below_from (suc n) f each = and_from (all_below n f) (f n) (all_below_from n f (λ i below. each i (omega (arith, below)))) (each n (omega arith))

-- a test that doesn't pass at each has a first number at which it fails
pub all_below_not : (n : ℕ) (f : ℕ → Bool) → all_below n f ≡ false → (i : ℕ) × (i < n) × (f i ≡ false) × ((h : ℕ) → h < i → f h ≡ true)
all_below_not zero f fails = absurd (true≢false fails)
all_below_not (suc n) f fails = elim (cases_Bool (all_below n f)) [
  | inl all ↦ (n, omega arith, elim (and_cases (all_below n f) (f n) fails) [ inl before ↦ absurd (both_ways (all_below n f) before all) | inr last ↦ last ], λ h below. all_below_at n f h all below)
  | inr before ↦
      let first = all_below_not n f before in
      (first.0, omega (arith, first.1), first.2, first.3)
]
