-- The steps on a machine, one after another.
use Rattle.std.proofs.Common.{◌≡◌, ℕ, suc, ◌+◌, true, false, cond, List, [], ◌∷◌, ◌++◌, map, nat_eq, ap, ◌∙◌, arith}
use Rattle.std.proofs.lemmas.List.{map-append, append-nil}
use Rattle.std.proofs.lemmas.Bool.Decides.{nat_tests}
use Rattle.plan_shop.specs.Shop.{JobShop, count_steps, machine_of, those_below}
use Rattle.plan_gantt.specs.ShopCharts.{step_interval, machine_intervals}
use Rattle.plan_gantt.specs.declared.interval.Interval.{Interval}

-- the intervals of the first n steps on a machine
abbrev pub first_intervals : JobShop → List ℕ → ℕ → ℕ → List Interval
first_intervals s starts m n = map (step_interval s starts) (those_below n (λ x. nat_eq (machine_of s x) m))

equal : (a b : ℕ) → a ≡ b → nat_eq a b ≡ true
equal a b e = grind (arith, nat_tests)

unequal : (a b : ℕ) → (a ≡ b → ⊥) → nat_eq a b ≡ false
unequal a b n = grind (arith, nat_tests)

-- one more index
next_place : (s : JobShop) (starts : List ℕ) (m n : ℕ) →
    first_intervals s starts m (n + 1) ≡ first_intervals s starts m n
    ++ map (step_interval s starts) (cond (nat_eq (machine_of s n) m) (n ∷ []) [])
next_place s starts m n =
    let place : n + 1 ≡ suc n = omega arith in
    ap (first_intervals s starts m) place ∙ map-append (step_interval s starts) (those_below n (λ x. nat_eq (machine_of s x) m)) (cond (nat_eq (machine_of s n) m) (n ∷ []) [])

-- those of all steps
pub all_intervals : (s : JobShop) (starts : List ℕ) (m n : ℕ) (items : List Interval) → items ≡ first_intervals s starts m n → n ≡ count_steps s → items ≡ machine_intervals s starts m
unfolding machine_intervals
all_intervals s starts m n items e f = e ∙ ap (first_intervals s starts m) f
