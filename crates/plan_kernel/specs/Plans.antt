-- Plans: feasible lists of starts that keep the windows of their starts and leave what is absent to
-- no activity (docs/definitions.md, "Plans").
use Rattle.std.specs.Prelude.{◌≡◌, ℕ, ◌+◌, ◌≤◌, ◌<◌, ◌&&◌, nat_eq, nat_le, nat_lt, cond, List, [], length, get_or, sum_by, All}
use Rattle.plan_sgs.specs.Problem.{Problem, count, duration, capacity, usage, all_placed, greatest_below, makespan, IsFeasible, IsShortest}
use Rattle.plan_kernel.specs.declared.input.StartWindow.{StartWindow}
use Rattle.plan_kernel.specs.declared.input.Absence.{Absence}
use Rattle.plan_kernel.specs.declared.input.Input.{Input}
use Rattle.plan_kernel.specs.Inputs.{problem_of}

-- an activity starts in a window
abbrev pub KeepsWindow : List ℕ → StartWindow → Type 0
KeepsWindow starts w =
    (w.earliest ≤ get_or starts w.activity 0) × (get_or starts w.activity 0 ≤ w.latest)

-- what an absence takes of a resource at an instant
abbrev pub taken_by : ℕ → ℕ → Absence → ℕ
taken_by t k a = cond (nat_eq a.resource k && (nat_le a.from t && nat_lt t a.until)) a.amount 0

-- what is absent of a resource at an instant
abbrev pub absent : Input → ℕ → ℕ → ℕ
absent input t k = sum_by (taken_by t k) input.absences.items

-- what is in use of a resource at an instant and what is absent are no more than there is
abbrev pub FitsFor : Input → List ℕ → ℕ → ℕ → Type 0
FitsFor input starts t k =
    usage (problem_of input) (all_placed starts) t k + absent input t k
    ≤ capacity (problem_of input) k

-- of all resources
abbrev pub FitsAt : Input → List ℕ → ℕ → Type 0
FitsAt input starts t = (k : ℕ) → k < length (problem_of input).capacities → FitsFor input starts t k

-- at each instant
abbrev pub FitsAlways : Input → List ℕ → Type 0
FitsAlways input starts = (t : ℕ) → FitsAt input starts t

-- at each start
abbrev pub FitsAtStarts : Input → List ℕ → Type 0
FitsAtStarts input starts = All (FitsAt input starts) starts

-- where each absence begins
abbrev pub FitsAtAbsences : Input → List ℕ → Type 0
FitsAtAbsences input starts = All (λ a. FitsAt input starts a.from) input.absences.items

-- a feasible list of starts that keeps all windows, and at each instant leaves what is absent
pub record IsPlan (input : Input) (starts : List ℕ) : Type 0 where
  pub feasible : IsFeasible (problem_of input) starts
  pub windows : All (KeepsWindow starts) input.windows.items
  pub fits : FitsAlways input starts

-- the tail of an activity: what its end adds to the cost of a plan beyond the end itself
abbrev pub tail : Input → ℕ → ℕ
tail input i = get_or input.tails.items i 0

-- the end of an activity with its tail
abbrev pub reach_of : Input → List ℕ → ℕ → ℕ
reach_of input starts i = get_or starts i 0 + duration (problem_of input) i + tail input i

-- the cost of a list of starts: the greatest end of an activity with its tail
abbrev pub cost : Input → List ℕ → ℕ
cost input starts = greatest_below (count (problem_of input)) (reach_of input starts)

-- a list of starts is a plan, and has this cost
pub record IsCostOf (input : Input) (starts : List ℕ) (n : ℕ) : Type 0 where
  pub plan : IsPlan input starts
  pub cost_is : n ≡ cost input starts

-- a plan, and no plan costs less
pub record IsLeastCost (input : Input) (starts : List ℕ) : Type 0 where
  pub plan : IsPlan input starts
  pub least : (other : List ℕ) → IsPlan input other → cost input starts ≤ cost input other

-- no plan costs less than a number
abbrev pub IsLowerBound : Input → ℕ → Type 0
IsLowerBound input lower = (starts : List ℕ) → IsPlan input starts → lower ≤ cost input starts

-- the numbers that plans and their costs depend on: all of an input but its orders
pub record Numbers : Type 0 where
  pub problem : Problem
  pub windows : List StartWindow
  pub absences : List Absence
  pub tails : List ℕ

unfoldable pub numbers_of : Input → Numbers
numbers_of input = record {
  problem = problem_of input;
  windows = input.windows.items;
  absences = input.absences.items;
  tails = input.tails.items;
}

-- a problem without windows, absences and tails
unfoldable pub plain_numbers : Problem → Numbers
plain_numbers p = record { problem = p; windows = []; absences = []; tails = [] }

-- an input describes a problem without windows, absences and tails
abbrev pub IsPlain : Input → Problem → Type 0
IsPlain input p = numbers_of input ≡ plain_numbers p

-- two inputs differ in their orders at most
abbrev pub HasSameNumbers : Input → Input → Type 0
HasSameNumbers one other = numbers_of one ≡ numbers_of other

-- without windows and absences a plan is a feasible list of starts
unfoldable pub PlansAreFeasible : Type 0
PlansAreFeasible =
    (input : Input) (p : Problem) (starts : List ℕ) → IsPlain input p
    → (IsPlan input starts → IsFeasible p starts) × (IsFeasible p starts → IsPlan input starts)

-- without tails the cost is the makespan
unfoldable pub CostsAreMakespans : Type 0
CostsAreMakespans =
    (input : Input) (p : Problem) (starts : List ℕ) → IsPlain input p
    → cost input starts ≡ makespan p starts

-- so a plan of least cost is a shortest list of starts
unfoldable pub LeastCostsAreShortest : Type 0
LeastCostsAreShortest =
    (input : Input) (p : Problem) (starts : List ℕ) → IsPlain input p
    → IsLeastCost input starts → IsShortest p starts

-- and a lower bound of all costs is one of all makespans
unfoldable pub LowerBoundsAreOfMakespans : Type 0
LowerBoundsAreOfMakespans =
    (input : Input) (p : Problem) (lower : ℕ) → IsPlain input p → IsLowerBound input lower
    → (starts : List ℕ) → IsFeasible p starts → lower ≤ makespan p starts
