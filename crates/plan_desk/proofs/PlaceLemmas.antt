-- The capacities at the places of a plan.
use Rattle.std.proofs.Common.{◌≡◌, ℕ, zero, suc, arith, length-append, ◌+◌, ◌<◌, List, ◌∷◌, [], ◌++◌, length, get_or, drop, Option, Some, refl, sym, ap, ◌∙◌, add-one, drop-cons, append_assoc}
use Rattle.std.specs.Prelude.{find, ◌==◌, unwrap_or, option_and_then}
use Rattle.std.proofs.lemmas.Bool.{cond-true, cond-false, eq-eqb, ne_eqb}
use Rattle.plan_desk.specs.declared.bound.BoundPlace.{BoundPlace}
use Rattle.plan_desk.specs.PlanValues.{capacity_at, capacities_in, is_open_at, machines_in}

-- the capacity of a place, if it is bound
abbrev capacity_in : Option BoundPlace → Option ℕ
capacity_in o = option_and_then (λ (b : BoundPlace). b.capacity) o

found_first : (b : BoundPlace) (rest : List BoundPlace) (place : ℕ) → b.place ≡ place → capacity_at (b ∷ rest) place ≡ b.capacity
found_first b rest place here =
    ap capacity_in (cond-true (b.place == place) (Some b) (find (λ x. x.place == place) rest) (eq-eqb b.place place here))

found_later : (b : BoundPlace) (rest : List BoundPlace) (place : ℕ) → (b.place ≡ place → ⊥) → capacity_at (b ∷ rest) place ≡ capacity_at rest place
found_later b rest place other =
    ap capacity_in (cond-false (b.place == place) (Some b) (find (λ x. x.place == place) rest) (ne_eqb b.place place other))

-- the first of the places that are left is the place
pub capacity_at-here : (places : List BoundPlace) (i : ℕ) (d : BoundPlace) (place : ℕ) → i < length places → (get_or places i d).place ≡ place
    → capacity_at (drop i places) place ≡ (get_or places i d).capacity
capacity_at-here places i d place inside here = rw (drop-cons places i d) (found_first (get_or places i d) _ place here)

-- the first of the places that are left is another one
pub capacity_at-past : (places : List BoundPlace) (i : ℕ) (d : BoundPlace) (place : ℕ) → i < length places → ((get_or places i d).place ≡ place → ⊥)
    → capacity_at (drop (i + 1) places) place ≡ capacity_at (drop i places) place
capacity_at-past places i d place inside other =
    rw (add-one, drop-cons places i d) (sym (found_later (get_or places i d) _ place other))

-- one more capacity is made
pub capacities_in-step : (places : List BoundPlace) (available : List ℕ) (k x : ℕ) (made : List ℕ) → k < length available
    → x ≡ unwrap_or (capacity_at places (k + 1)) (get_or available k 0)
    → (made ++ x ∷ []) ++ capacities_in places (k + 1 + 1) (drop (k + 1) available) ≡ made ++ capacities_in places (k + 1) (drop k available)
capacities_in-step places available k x made inside is =
    append_assoc made (x ∷ []) _
    ∙ ap (λ rest. made ++ rest)
    (ap (λ n. x ∷ capacities_in places (k + 1 + 1) (drop n available)) (add-one k)
    ∙ ap (λ y. y ∷ capacities_in places (k + 1 + 1) (drop (suc k) available)) is
    ∙ sym (ap (capacities_in places (k + 1)) (drop-cons available k 0 inside)))

-- a capacity is made for each resource
pub length-capacities_in : (places : List BoundPlace) (k : ℕ) (available : List ℕ) → length (capacities_in places k available) ≡ length available
length-capacities_in places k [] = refl
length-capacities_in places k (x ∷ xs) = ap suc (length-capacities_in places (k + 1) xs)

-- each machine is tested
pub length-machines_in : (places : List BoundPlace) (n : ℕ) → length (machines_in places n) ≡ n
length-machines_in places zero = refl
length-machines_in places (suc n) =
    let more = length-append (machines_in places n) (is_open_at (capacity_at places n) ∷ []) in
    let rest = length-machines_in places n in
    omega (arith, more, rest)
