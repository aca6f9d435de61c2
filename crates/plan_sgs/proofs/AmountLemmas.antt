-- Usage of the placed activities, one more activity that fits beside them, and its earliest start.
use Rattle.std.proofs.Common.{ℕ, zero, suc, max, Bool, true, ◌&&◌, nat_le, nat_lt, ◌≡◌, ◌+◌, ◌≤◌, ◌<◌, inl, inr, List, [], ◌∷◌, length, get_or, Option, Some, None, refl, ◌∙◌, ap, subst, arith}
use Rattle.std.proofs.lemmas.Bool.{cases_eq, both_ways, cond_both, cond-false, cond-true, and_right, and_left, and_from, leb-true, le-leb, le-ltb, lt-ltb, lt-leb}
use Rattle.std.proofs.lemmas.Option.{none-some, same_Some}
use Rattle.plan_sgs.specs.Problem.{Problem, count, duration, need, capacity, amount_of, usage, all_below, NeedsFit}
use Rattle.plan_sgs.specs.Serial.{release, fits, horizon_from, first_from, earliest, IsEarliest}
use Rattle.plan_sgs.proofs.TotalLemmas.{total_none, all_below_at, all_below_from}

-- an activity that fits keeps the capacities at each instant of its interval
pub fits_at : (p : Problem) (placed : List (Option ℕ)) (j t x k : ℕ) → fits p placed j t ≡ true → x < duration p j → k < length p.capacities → usage p placed (t + x) k + need p j k ≤ capacity p k
unfolding fits
fits_at p placed j t x k fit low within =
    let here = all_below_at (duration p j) (λ x. all_below (length p.capacities) (λ k. nat_le (usage p placed (t + x) k + need p j k) (capacity p k))) x fit low in
    leb-true (usage p placed (t + x) k + need p j k) (capacity p k) (all_below_at (length p.capacities) (λ k. nat_le (usage p placed (t + x) k + need p j k) (capacity p k)) k here within)

pub fits_from : (p : Problem) (placed : List (Option ℕ)) (j t : ℕ) →
    ((x k : ℕ) → x < duration p j → k < length p.capacities →
    usage p placed (t + x) k + need p j k ≤ capacity p k) → fits p placed j t ≡ true
unfolding fits
fits_from p placed j t keeps =
    all_below_from (duration p j) (λ x. all_below (length p.capacities) (λ k. nat_le (usage p placed (t + x) k + need p j k) (capacity p k))) (λ x low.
    all_below_from (length p.capacities) (λ k. nat_le (usage p placed (t + x) k + need p j k) (capacity p k)) (λ k within.
    le-leb (usage p placed (t + x) k + need p j k) (capacity p k) (keeps x k low within)))

-- the first instant that passes isn't before the one looked at first
first_late : (f : ℕ → Bool) (t n : ℕ) → t ≤ first_from f t n
first_late f t zero = omega arith
first_late f t (suc n) = cond_both (f t) t (first_from f (suc t) n) (λ x. t ≤ x) (λ yes. omega arith) (λ no. omega (arith, first_late f (suc t) n))

-- it passes if the last one does
first_passes : (f : ℕ → Bool) (t n : ℕ) → f (t + n) ≡ true → f (first_from f t n) ≡ true
first_passes f t zero pass = let same : t + 0 ≡ t = omega arith in subst (λ (x : ℕ). f x ≡ true) same pass
first_passes f t (suc n) pass =
    let same : t + suc n ≡ suc t + n = omega arith in
    cond_both (f t) t (first_from f (suc t) n) (λ x. f x ≡ true) (λ yes. yes) (λ no. first_passes f (suc t) n (subst (λ (x : ℕ). f x ≡ true) same pass))

-- no other that passes is before it
first_least : (f : ℕ → Bool) (t n u : ℕ) → t ≤ u → f u ≡ true → first_from f t n ≤ u
first_least f t zero u late pass = late
first_least f t (suc n) u late pass = cond_both (f t) t (first_from f (suc t) n) (λ x. x ≤ u) (λ yes. late) (λ no.
    elim (cases_eq t u) [
      | inl same ↦ absurd (both_ways (f t) no (ap f same ∙ pass))
      | inr other ↦ first_least f (suc t) n u (omega (arith, late, other)) pass
    ])

-- the horizon is at least its initial value
horizon_from-first : (p : Problem) (i m : ℕ) (placed : List (Option ℕ)) → m ≤ horizon_from p i m placed
horizon_from-first p i m [] = omega arith
horizon_from-first p i m (None ∷ placed) = horizon_from-first p (suc i) m placed
horizon_from-first p i m (Some s ∷ placed) = omega (arith, horizon_from-first p (suc i) (max m (s + duration p i)) placed)

-- all placed activities end by the horizon
horizon_above : (p : Problem) (i m : ℕ) (placed : List (Option ℕ)) (j s : ℕ) → get_or placed j None ≡ Some s → s + duration p (i + j) ≤ horizon_from p i m placed
horizon_above p i m [] j s is = absurd (none-some s is)
horizon_above p i m (None ∷ placed) zero s is = absurd (none-some s is)
horizon_above p i m (Some r ∷ placed) zero s is =
    let start : r ≡ s = same_Some r s is in
    let place : i + 0 ≡ i = omega arith in
    omega (arith, start, ap (duration p) place, horizon_from-first p (suc i) (max m (r + duration p i)) placed)
horizon_above p i m (None ∷ placed) (suc j) s is =
    let place : i + suc j ≡ suc i + j = omega arith in
    omega (arith, ap (duration p) place, horizon_above p (suc i) m placed j s is)
horizon_above p i m (Some r ∷ placed) (suc j) s is =
    let place : i + suc j ≡ suc i + j = omega arith in
    omega (arith, ap (duration p) place, horizon_above p (suc i) (max m (r + duration p i)) placed j s is)

-- an activity that has ended by t needs nothing then
pub amount_ended : (p : Problem) (t k i : ℕ) (start : Option ℕ) → ((s : ℕ) → start ≡ Some s → s + duration p i ≤ t) → amount_of p t k i start ≡ 0
amount_ended p t k i None ended = refl
amount_ended p t k i (Some s) ended = cond-false (nat_le s t && nat_lt t (s + duration p i)) (need p i k) 0
    (and_right (nat_le s t) (nat_lt t (s + duration p i)) (le-ltb t (s + duration p i) (ended s refl)))

-- an activity that starts after t needs nothing then
pub amount_before : (p : Problem) (t k i s : ℕ) → t < s → amount_of p t k i (Some s) ≡ 0
amount_before p t k i s early = cond-false (nat_le s t && nat_lt t (s + duration p i)) (need p i k) 0 (and_left (nat_le s t) (nat_lt t (s + duration p i)) (lt-leb s t early))

-- an activity that is under way at t has its needs then
pub amount_during : (p : Problem) (t k i s : ℕ) → s ≤ t → t < s + duration p i → amount_of p t k i (Some s) ≡ need p i k
amount_during p t k i s begun runs = cond-true (nat_le s t && nat_lt t (s + duration p i)) (need p i k) 0
    (and_from (nat_le s t) (nat_lt t (s + duration p i)) (le-leb s t begun)
    (lt-ltb t (s + duration p i) runs))

-- nothing is in use once all placed activities have ended
pub usage_ended : (p : Problem) (placed : List (Option ℕ)) (t k : ℕ) → ((i s : ℕ) → get_or placed i None ≡ Some s → s + duration p i ≤ t) → usage p placed t k ≡ 0
unfolding usage
usage_ended p placed t k ended = total_none (count p) (λ i. amount_of p t k i (get_or placed i None)) (λ i inside. amount_ended p t k i (get_or placed i None) (λ s is. ended i s is))

-- from the horizon on nothing is in use
usage_late : (p : Problem) (placed : List (Option ℕ)) (t k : ℕ) → horizon_from p 0 0 placed ≤ t → usage p placed t k ≡ 0
usage_late p placed t k late = usage_ended p placed t k (λ i s is. let place : 0 + i ≡ i = omega arith in omega (arith, late, ap (duration p) place, horizon_above p 0 0 placed i s is))

-- if the needs are within the capacities, the earliest start is the least instant from the release
-- on that fits
pub earliest_is : (p : Problem) (placed : List (Option ℕ)) (j : ℕ) → NeedsFit p → j < count p → IsEarliest p placed j (earliest p placed j)
unfolding earliest
earliest_is p placed j fit inside = record {
  released = first_late (fits p placed j) (release p placed j) (horizon_from p 0 0 placed);
  fitting = first_passes (fits p placed j) (release p placed j) (horizon_from p 0 0 placed) last;
  least = λ u released fitting. first_least (fits p placed j) (release p placed j) (horizon_from p 0 0 placed) u released fitting;
} where
  last : fits p placed j (release p placed j + horizon_from p 0 0 placed) ≡ true
  last = fits_from p placed j (release p placed j + horizon_from p 0 0 placed) (λ x k low within.
      let none : usage p placed (release p placed j + horizon_from p 0 0 placed + x) k ≡ 0 = usage_late p placed (release p placed j + horizon_from p 0 0 placed + x) k (omega arith) in
      omega (arith, none, fit j k inside (omega (arith, low)) within))
