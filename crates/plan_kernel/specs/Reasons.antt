-- Reasons: the clauses that hold by the problem alone (docs/definitions.md, "Clauses"). Energy as
-- in Schutt, Feydt, Stuckey and Wallace (2011).
use Rattle.std.specs.Prelude.{◌≡◌, ◌≢◌, ℕ, suc, ◌+◌, ◌*◌, ◌-◌, ◌≤◌, ◌<◌, List, sum_by, length, get_or, All}
use Rattle.std.specs.List.{AllPairs}
use Rattle.plan_sgs.specs.Problem.{Problem, count, duration, need, capacity, total}
use Rattle.plan_kernel.specs.declared.literal.TheConstants.{LIMIT}
use Rattle.plan_kernel.specs.declared.literal.Literal.{Literal}
use Rattle.plan_kernel.specs.declared.input.Input.{Input}
use Rattle.plan_kernel.specs.declared.input.Absence.{Absence}
use Rattle.plan_kernel.specs.declared.input.Order.{Order}
use Rattle.plan_kernel.specs.declared.reason.Member.{Member}
use Rattle.plan_kernel.specs.declared.reason.OrderAt.{OrderAt}
use Rattle.plan_kernel.specs.Inputs.{problem_of}
use Rattle.plan_kernel.specs.Plans.{taken_by, absent}
use Rattle.plan_kernel.specs.Literals.{no_order, Fails}
use Rattle.plan_kernel.specs.Clauses.{IsShorter}

-- an activity, below the limit
abbrev pub IsWritable : Input → ℕ → Type 0
IsWritable input i = (i < count (problem_of input)) × (i < LIMIT)

-- the two activities of an order
abbrev pub pair_of : OrderAt → Order
pair_of o = record { first = o.first; second = o.second }

-- an order with its quantity, below the limit
abbrev pub IsOrder : Input → OrderAt → Type 0
IsOrder input o =
    (place : ℕ) × (o.quantity ≡ suc (count (problem_of input)) + place)
    × (get_or input.orders.items place no_order ≡ pair_of o) × (o.quantity < LIMIT)

-- the literal that a quantity is at least a value
abbrev pub at_least : ℕ → ℕ → Literal
at_least quantity value = record { half = 2 * quantity; value = value }

-- the literal that a quantity is below a value
abbrev pub below : ℕ → ℕ → Literal
below quantity value = record { half = 2 * quantity + 1; value = LIMIT + 1 - value }

-- two different activities that last and need more of some resource together than there is
abbrev pub AreApart : Problem → ℕ → ℕ → Type 0
AreApart p i j =
    (i ≢ j) × (0 < duration p i) × (0 < duration p j)
    × ((k : ℕ) × (k < length p.capacities) × (capacity p k < need p i k + need p j k))

-- an activity that can be in a window for so long
pub record IsMember (input : Input) (from until : ℕ) (m : Member) : Type 0 where
  pub activity : IsWritable input m.activity
  pub lasts : m.time ≤ duration (problem_of input) m.activity
  pub inside : from + m.time ≤ until

-- activities that can be in a window for so long, rising
pub record AreMembers (input : Input) (from until : ℕ) (members : List Member) : Type 0 where
  pub rising : AllPairs (λ m n. m.activity < n.activity) members
  pub each : All (IsMember input from until) members

-- what members need of a resource, over their times
abbrev pub energy_of : Problem → ℕ → List Member → ℕ
energy_of p k members = sum_by (λ m. need p m.activity k * m.time) members

-- what an absence takes of a resource in a window, over time
abbrev pub taken_in : ℕ → ℕ → ℕ → Absence → ℕ
taken_in k from until a = total (until - from) (λ x. taken_by (from + x) k a)

-- what is absent of a resource in a window, over time
abbrev pub absent_in : Input → ℕ → ℕ → ℕ → ℕ
absent_in input k from until = total (until - from) (λ x. absent input (from + x) k)

-- a window is too short for its members beside what is absent
pub record IsOverloaded (input : Input) (k from until : ℕ) (members : List Member) : Type 0 where
  pub window : from < until
  pub limit : until ≤ LIMIT
  pub resource : k < length (problem_of input).capacities
  pub each : AreMembers input from until members
  pub more :
      capacity (problem_of input) k * (until - from)
      < energy_of (problem_of input) k members + absent_in input k from until

-- where the literals of a member fail it is in the window for its time
abbrev pub IsWithin : Input → ℕ → ℕ → List ℕ → Member → Type 0
IsWithin input from until starts m =
    (from + m.time ≤ get_or starts m.activity 0 + duration (problem_of input) m.activity)
    × (get_or starts m.activity 0 + m.time ≤ until)

-- a clause has the literals of one member more
abbrev pub Fills : Input → ℕ → ℕ → Member → List Literal → List Literal → Type 0
Fills input from until m old new =
    (starts : List ℕ) → IsShorter input LIMIT starts → All (Fails input starts) new
    → All (Fails input starts) old × IsWithin input from until starts m
