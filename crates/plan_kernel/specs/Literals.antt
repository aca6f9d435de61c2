-- Literals: lower bounds of starts, of the cost, of what is left of them below a limit, and of
-- orders of two activities (docs/definitions.md, "Clauses"). Lazy clause generation as in Ohrimenko, Stuckey and
-- Codish (2009).
use Rattle.std.specs.Prelude.{ℕ, suc, ◌+◌, ◌-◌, ◌/◌, ◌%◌, ◌<◌, ◌≤◌, cond, nat_eq, nat_lt, nat_le, List, get_or}
use Rattle.plan_sgs.specs.Problem.{Problem, count, duration}
use Rattle.plan_kernel.specs.declared.literal.TheConstants.{LIMIT}
use Rattle.plan_kernel.specs.declared.literal.Literal.{Literal}
use Rattle.plan_kernel.specs.declared.input.Order.{Order}
use Rattle.plan_kernel.specs.declared.input.Input.{Input}
use Rattle.plan_kernel.specs.Inputs.{problem_of}
use Rattle.plan_kernel.specs.Plans.{cost}

-- the number at a place, 0 if there is none
abbrev pub at : List ℕ → ℕ → ℕ
at list place = get_or list place 0

-- 1 if the first activity ends before the second starts, else 0
abbrev pub order_of : Problem → List ℕ → Order → ℕ
order_of p starts o =
    cond (nat_le (at starts o.first + duration p o.first) (at starts o.second)) 1 0

-- no order in particular
abbrev pub no_order : Order
no_order = record { first = 0; second = 0 }

-- an order by its number, the first one behind the cost
abbrev pub order_at : Input → List ℕ → ℕ → ℕ
order_at input starts x =
    let p = problem_of input in
    order_of p starts (get_or input.orders.items (x - suc (count p)) no_order)

-- the start of an activity; behind the activities the cost, and behind it an order
abbrev pub quantity : Input → List ℕ → ℕ → ℕ
quantity input starts x =
    let p = problem_of input in
    cond (nat_lt x (count p)) (at starts x)
    (cond (nat_eq x (count p)) (cost input starts) (order_at input starts x))

-- a quantity by its even half, and by its odd half what is left of it below the limit
unfoldable pub level : Input → List ℕ → ℕ → ℕ
level input starts half =
    cond (nat_eq (half % 2) 0) (quantity input starts (half / 2))
    (LIMIT - quantity input starts (half / 2))

-- a literal that holds in a list of starts
abbrev pub Holds : Input → List ℕ → Literal → Type 0
Holds input starts l = l.value ≤ level input starts l.half

-- a literal that doesn't
abbrev pub Fails : Input → List ℕ → Literal → Type 0
Fails input starts l = level input starts l.half < l.value

-- the half of the same quantity on its other side
abbrev pub opposite : ℕ → ℕ
opposite half = cond (nat_eq (half % 2) 0) (half + 1) (half - 1)

-- the literal that holds exactly if another doesn't
abbrev pub negated : Literal → Literal
negated l = record { half = opposite l.half; value = LIMIT + 1 - l.value }
