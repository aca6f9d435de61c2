-- The work on a resource fits beside its capacity into each feasible schedule.
use Rattle.std.proofs.Common.{ℕ, zero, suc, min, nat_lt, ◌≡◌, ◌+◌, ◌-◌, ◌*◌, ◌/◌, ◌%◌, ◌≤◌, ◌<◌, inl, inr, List, length, get_or, Some, refl, sym, ◌∙◌, ap, arith}
use Rattle.std.proofs.lemmas.Bool.{cases_lt, cond-true, cond-false, lt-ltb, le-ltb}
use Rattle.std.proofs.lemmas.Nat.{mul-le, div-add-mod'}
use Rattle.std.proofs.Math.Nat.{suc-mul, mul_comm}
use Rattle.plan_sgs.specs.Problem.{Problem, count, duration, need, capacity, total, amount_of, usage, all_placed, IsFeasible, makespan}
use Rattle.plan_sgs.specs.ProjectWords.{work_of, rounded_up, busy_of}
use Rattle.plan_sgs.specs.ProjectLaws.{RoundsUp}
use Rattle.plan_sgs.proofs.TotalLemmas.{total_same, total_none, total_plus, total_limit, greatest_above}
use Rattle.plan_sgs.proofs.AmountLemmas.{amount_before, amount_during}
use Rattle.plan_sgs.proofs.StartLemmas.{amount_at, amount_late, usage_is}

-- the product of the rounded quotient and b is at least q times b plus a rest
rounded_enough : (q r b : ℕ) → r < b → q * b + r ≤ (q + min r 1) * b
rounded_enough q zero b low = let same : q + min 0 1 ≡ q = omega arith in omega (arith, ap (λ (x : ℕ). x * b) same)
rounded_enough q (suc r) b low = let same : q + min (suc r) 1 ≡ suc q = omega arith in omega (arith, low, ap (λ (x : ℕ). x * b) same, suc-mul q b)

rounded_least : (q r b v : ℕ) → r < b → q * b + r ≤ v * b → q + min r 1 ≤ v
rounded_least q r b v low covers = elim (cases_lt v (q + min r 1)) [
  | inr enough ↦ enough
  | inl short ↦ elim (cases_lt v q) [
    | inl less ↦
        let more : suc v * b ≤ q * b = mul-le (suc v) b q b (omega (arith, less)) (omega arith) in
        absurd (omega (arith, more, suc-mul v b, covers, low))
    | inr not_less ↦
        let same : v * b ≤ q * b = mul-le v b q b (omega (arith, short)) (omega arith) in
        absurd (omega (arith, same, covers, short, not_less))
  ]
]

rounds_least : (a b v : ℕ) → 0 < b → a ≤ v * b → rounded_up a b ≤ v
rounds_least a b v some covers = rounded_least (a / b) (a % b) b v (omega (arith, some)) (omega (arith, div-add-mod' a b, covers))

-- a quotient rounded up is the least number that makes at least the dividend
pub rounds_up : RoundsUp
unfolding RoundsUp
rounds_up a b some =
    let whole : a / b * b + a % b ≡ a = div-add-mod' a b in
    let low : a % b < b = omega (arith, some) in
    (omega (arith, whole, rounded_enough (a / b) (a % b) b low), λ v covers. rounds_least a b v some covers)

-- the sum of one activity's needs up to an instant within its interval
amount_first : (p : Problem) (k i s x : ℕ) → x ≤ duration p i → total (s + x) (λ t. amount_of p t k i (Some s)) ≡ x * need p i k
amount_first p k i s zero low = let same : s + 0 ≡ s = omega arith in
    let none : total s (λ t. amount_of p t k i (Some s)) ≡ 0 = total_none s (λ t. amount_of p t k i (Some s)) (λ t below. amount_before p t k i s below) in
    omega (arith, ap (λ (n : ℕ). total n (λ t. amount_of p t k i (Some s))) same, none)
amount_first p k i s (suc x) low =
    let next : s + suc x ≡ suc (s + x) = omega arith in
    let here : amount_of p (s + x) k i (Some s) ≡ need p i k = amount_during p (s + x) k i s (omega arith) (omega (arith, low)) in
    omega (arith, ap (λ (n : ℕ). total n (λ t. amount_of p t k i (Some s))) next, here, amount_first p k i s x (omega (arith, low)), suc-mul x (need p i k))

-- and beyond its end
amount_whole : (p : Problem) (k i s y : ℕ) → total (s + duration p i + y) (λ t. amount_of p t k i (Some s)) ≡ duration p i * need p i k
amount_whole p k i s zero = let same : s + duration p i + 0 ≡ s + duration p i = omega arith in
    omega (arith, ap (λ (n : ℕ). total n (λ t. amount_of p t k i (Some s))) same, amount_first p k i s (duration p i) (omega arith))
amount_whole p k i s (suc y) =
    let next : s + duration p i + suc y ≡ suc (s + duration p i + y) = omega arith in
    let none : amount_of p (s + duration p i + y) k i (Some s) ≡ 0 = amount_late p (s + duration p i + y) k i s (omega arith) in
    omega (arith, ap (λ (n : ℕ). total n (λ t. amount_of p t k i (Some s))) next, none, amount_whole p k i s y)

-- over all instants before one by which it has ended
amount_all : (p : Problem) (k i s m : ℕ) → s + duration p i ≤ m → total m (λ t. amount_of p t k i (Some s)) ≡ duration p i * need p i k
amount_all p k i s m ended =
    let same : s + duration p i + (m - (s + duration p i)) ≡ m = omega (arith, ended) in
    sym (ap (λ (n : ℕ). total n (λ t. amount_of p t k i (Some s))) same) ∙ amount_whole p k i s (m - (s + duration p i))

-- sums of sums in either order
total_both : (n m : ℕ) (g : ℕ → ℕ → ℕ) → total n (λ i. total m (λ t. g i t)) ≡ total m (λ t. total n (λ i. g i t))
total_both zero m g = sym (total_none m (λ t. 0) (λ t below. refl))
total_both (suc n) m g = omega (arith, total_both n m g, total_plus m (λ t. total n (λ i. g i t)) (λ t. g n t))

-- the work on a resource is no more than its capacity at all instants of a feasible schedule
pub work_fits : (p : Problem) (s : List ℕ) (k : ℕ) → IsFeasible p s → k < length p.capacities → work_of p k ≤ makespan p s * capacity p k
work_fits p s k feasible within =
    let each : work_of p k ≡ total (count p) (λ i. total (makespan p s) (λ t. amount_at p s t k i)) =
    total_same (count p) (λ i. duration p i * need p i k) (λ i. total (makespan p s) (λ t. amount_at p s t k i)) (λ i below.
    sym (amount_all p k i (get_or s i 0) (makespan p s) (greatest_above (count p) (λ h. get_or s h 0 + duration p h) i below))) in
    let turned : total (count p) (λ i. total (makespan p s) (λ t. amount_at p s t k i)) ≡ total (makespan p s) (λ t. total (count p) (λ i. amount_at p s t k i)) =
    total_both (count p) (makespan p s) (λ i t. amount_at p s t k i) in
    let most : total (makespan p s) (λ t. total (count p) (λ i. amount_at p s t k i)) ≤ capacity p k * makespan p s =
    total_limit (makespan p s) (λ t. total (count p) (λ i. amount_at p s t k i)) (capacity p k) (λ t below.
    let used : usage p (all_placed s) t k ≡ total (count p) (amount_at p s t k) = usage_is p s t k feasible.each_started in
    omega (arith, used, feasible.capacities t k within)) in
    omega (arith, each, turned, most, mul_comm (capacity p k) (makespan p s))

-- so a resource isn't busy for longer than the schedule
pub busy_fits : (p : Problem) (s : List ℕ) (k : ℕ) → IsFeasible p s → k < length p.capacities → busy_of p k ≤ makespan p s
busy_fits p s k feasible within = elim (cases_lt 0 (capacity p k)) [
  | inl some ↦
      let is : busy_of p k ≡ rounded_up (work_of p k) (capacity p k) = cond-true (nat_lt 0 (capacity p k)) (rounded_up (work_of p k) (capacity p k)) 0 (lt-ltb 0 (capacity p k) some) in
      let least : rounded_up (work_of p k) (capacity p k) ≤ makespan p s = rounds_least (work_of p k) (capacity p k) (makespan p s) some (work_fits p s k feasible within) in
      omega (arith, is, least)
  | inr none ↦
      let is : busy_of p k ≡ 0 = cond-false (nat_lt 0 (capacity p k)) (rounded_up (work_of p k) (capacity p k)) 0 (le-ltb 0 (capacity p k) none) in
      omega (arith, is)
]
