-- The meaning of literals: a half and its opposite share the limit, and a literal holds if its
-- negation fails.
use Rattle.std.proofs.Common.{◌≡◌, ◌∙◌, ℕ, suc, ◌+◌, ◌-◌, ◌*◌, ◌/◌, ◌%◌, ◌≤◌, ◌<◌, ◌⊎◌, inl, inr, List, cond, nat_eq, nat_lt, nat_le, get_or, refl, ap, arith}
use Rattle.std.proofs.lemmas.Bool.{cases_eq, cond_both, cond-true, cond-false, eq-eqb, ne_eqb, lt-ltb, le-ltb, ltb-true}
use Rattle.plan_sgs.specs.Problem.{Problem, count, duration}
use Rattle.plan_sgs.proofs.TotalLemmas.{greatest_above}
use Rattle.plan_kernel.specs.declared.literal.TheConstants.{LIMIT}
use Rattle.plan_kernel.specs.declared.literal.Literal.{Literal}
use Rattle.plan_kernel.specs.declared.input.Order.{Order}
use Rattle.plan_kernel.specs.declared.input.Input.{Input}
use Rattle.plan_kernel.specs.Inputs.{problem_of}
use Rattle.plan_kernel.specs.Plans.{tail, reach_of, cost}
use Rattle.plan_kernel.specs.Literals.{at, order_of, no_order, order_at, quantity, level, Holds, Fails, opposite, negated}
use Rattle.plan_kernel.specs.Clauses.{IsShorter}

-- an activity ends, with its tail, before the upper bound
pub ends_before : (input : Input) (upper : ℕ) (starts : List ℕ) (i : ℕ) → IsShorter input upper starts → i < count (problem_of input)
    → at starts i + duration (problem_of input) i + tail input i < upper
ends_before input upper starts i short inside =
    omega (arith, short.less, greatest_above (count (problem_of input)) (reach_of input starts) i inside)

-- an order is 1 or 0
pub order_small : (p : Problem) (starts : List ℕ) (o : Order) → order_of p starts o ≤ 1
order_small p starts o = cond_both (nat_le (at starts o.first + duration p o.first) (at starts o.second)) 1 0 (λ x. x ≤ 1) (λ _. omega arith) (λ _. omega arith)

-- no quantity is above the limit
pub quantity_within : (input : Input) (upper : ℕ) (starts : List ℕ) (x : ℕ) → IsShorter input upper starts → upper ≤ LIMIT → quantity input starts x ≤ LIMIT
quantity_within input upper starts x short limit =
    let p = problem_of input in
    let o : Order = get_or input.orders.items (x - suc (count p)) no_order in
    cond_both (nat_lt x (count p)) (at starts x) (cond (nat_eq x (count p)) (cost input starts) (order_at input starts x)) (λ q. q ≤ LIMIT)
    (λ inside. omega (arith, limit, ends_before input upper starts x short (ltb-true x (count p) inside)))
    (λ _. cond_both (nat_eq x (count p)) (cost input starts) (order_at input starts x) (λ q. q ≤ LIMIT)
    (λ _. omega (arith, limit, short.less))
    (λ _. omega (arith, order_small p starts o)))

-- the quantity of an activity
pub quantity_start : (input : Input) (starts : List ℕ) (x : ℕ) → x < count (problem_of input) → quantity input starts x ≡ at starts x
quantity_start input starts x inside =
    let p = problem_of input in
    cond-true (nat_lt x (count p)) (at starts x) (cond (nat_eq x (count p)) (cost input starts) (order_at input starts x)) (lt-ltb x (count p) inside)

-- the quantity behind the activities
pub quantity_cost : (input : Input) (starts : List ℕ) → quantity input starts (count (problem_of input)) ≡ cost input starts
quantity_cost input starts =
    let p = problem_of input in
    let n = count p in
    cond-false (nat_lt n n) (at starts n) (cond (nat_eq n n) (cost input starts) (order_at input starts n)) (le-ltb n n (omega arith))
    ∙ cond-true (nat_eq n n) (cost input starts) (order_at input starts n) (eq-eqb n n refl)

-- the quantity of an order
pub quantity_order : (input : Input) (starts : List ℕ) (x place : ℕ) → x ≡ suc (count (problem_of input)) + place
    → quantity input starts x ≡ order_of (problem_of input) starts (get_or input.orders.items place no_order)
quantity_order input starts x place is =
    let p = problem_of input in
    let back : x - suc (count p) ≡ place = omega (arith, is) in
    let apart : (x ≡ count p) → ⊥ = λ same. omega (arith, is, same) in
    cond-false (nat_lt x (count p)) (at starts x) (cond (nat_eq x (count p)) (cost input starts) (order_at input starts x)) (le-ltb x (count p) (omega (arith, is)))
    ∙ cond-false (nat_eq x (count p)) (cost input starts) (order_at input starts x) (ne_eqb x (count p) apart)
    ∙ ap (λ (k : ℕ). order_of p starts (get_or input.orders.items k no_order)) back

-- an even half is at the quantity
pub level_even : (input : Input) (starts : List ℕ) (x : ℕ) → level input starts (2 * x) ≡ quantity input starts x
unfolding level
level_even input starts x =
    let even : (2 * x) % 2 ≡ 0 = omega arith in
    let half : (2 * x) / 2 ≡ x = omega arith in
    cond-true (nat_eq ((2 * x) % 2) 0) (quantity input starts ((2 * x) / 2)) (LIMIT - quantity input starts ((2 * x) / 2)) (eq-eqb ((2 * x) % 2) 0 even)
    ∙ ap (quantity input starts) half

-- an odd half is at what the quantity leaves
pub level_odd : (input : Input) (starts : List ℕ) (x : ℕ) → level input starts (2 * x + 1) ≡ LIMIT - quantity input starts x
unfolding level
level_odd input starts x =
    let odd : ((2 * x + 1) % 2 ≡ 0) → ⊥ = λ e. omega (arith, e) in
    let half : (2 * x + 1) / 2 ≡ x = omega arith in
    cond-false (nat_eq ((2 * x + 1) % 2) 0) (quantity input starts ((2 * x + 1) / 2)) (LIMIT - quantity input starts ((2 * x + 1) / 2)) (ne_eqb ((2 * x + 1) % 2) 0 odd)
    ∙ ap (λ (y : ℕ). LIMIT - quantity input starts y) half

-- a half is even, or odd
pub cases_half : (half : ℕ) → ((x : ℕ) × (half ≡ 2 * x)) ⊎ ((x : ℕ) × (half ≡ 2 * x + 1))
cases_half half = elim (cases_eq (half % 2) 0) [
  | inl even ↦ inl (half / 2, omega (arith, even))
  | inr odd ↦ inr (half / 2, omega (arith, odd))
]

opposite_even : (x : ℕ) → opposite (2 * x) ≡ 2 * x + 1
opposite_even x =
    let even : (2 * x) % 2 ≡ 0 = omega arith in
    cond-true (nat_eq ((2 * x) % 2) 0) (2 * x + 1) (2 * x - 1) (eq-eqb ((2 * x) % 2) 0 even)

opposite_odd : (x : ℕ) → opposite (2 * x + 1) ≡ 2 * x
opposite_odd x =
    let odd : ((2 * x + 1) % 2 ≡ 0) → ⊥ = λ e. omega (arith, e) in
    let back : 2 * x + 1 - 1 ≡ 2 * x = omega arith in
    cond-false (nat_eq ((2 * x + 1) % 2) 0) (2 * x + 1 + 1) (2 * x + 1 - 1) (ne_eqb ((2 * x + 1) % 2) 0 odd) ∙ back

-- a half and its opposite share the limit
pub level-opposite : (input : Input) (upper : ℕ) (starts : List ℕ) (half : ℕ) → IsShorter input upper starts → upper ≤ LIMIT
    → level input starts (opposite half) + level input starts half ≡ LIMIT
level-opposite input upper starts half short limit = elim (cases_half half) [
  | inl (x, is) ↦
      let other : opposite half ≡ 2 * x + 1 = ap opposite is ∙ opposite_even x in
      omega (arith, ap (level input starts) other, level_odd input starts x, ap (level input starts) is, level_even input starts x, quantity_within input upper starts x short limit)
  | inr (x, is) ↦
      let other : opposite half ≡ 2 * x = ap opposite is ∙ opposite_odd x in
      omega (arith, ap (level input starts) other, level_even input starts x, ap (level input starts) is, level_odd input starts x, quantity_within input upper starts x short limit)
]

-- where the negation of a literal holds it fails
pub negated_holds : (input : Input) (upper : ℕ) (starts : List ℕ) (l : Literal) → IsShorter input upper starts → upper ≤ LIMIT
    → Holds input starts (negated l) → Fails input starts l
negated_holds input upper starts l short limit holds = omega (arith, holds, level-opposite input upper starts l.half short limit)

-- where the negation of a literal fails it holds
pub negated_fails : (input : Input) (upper : ℕ) (starts : List ℕ) (l : Literal) → IsShorter input upper starts → upper ≤ LIMIT
    → Fails input starts (negated l) → Holds input starts l
negated_fails input upper starts l short limit fails = omega (arith, fails, level-opposite input upper starts l.half short limit)
