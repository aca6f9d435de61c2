-- Answers of a search for a plan of least cost (docs/definitions.md, "Plans").
use Rattle.std.specs.Prelude.{◌≡◌, ℕ, ◌≤◌, ◌<◌, List}
use Rattle.plan_kernel.specs.declared.input.Input.{Input}
use Rattle.plan_kernel.specs.Plans.{IsPlan, IsLeastCost, IsLowerBound, cost}
use Rattle.plan_solve.specs.declared.plans.PlanAnswer.{PlanAnswer}
use Rattle.plan_solve.specs.declared.plans.PlanAnswer.TheVariants.{Optimal, Between, NoPlan, Unknown}

-- no plan costs as little as a horizon
abbrev pub HasNoPlan : Input → ℕ → Type 0
HasNoPlan input horizon = (starts : List ℕ) → IsPlan input starts → horizon < cost input starts

-- a plan of least cost
pub record IsOptimalPlan (input : Input) (starts : List ℕ) (n : ℕ) : Type 0 where
  pub least : IsLeastCost input starts
  pub cost_is : n ≡ cost input starts

-- a plan, and a lower bound of the costs of all plans
pub record IsBoundedPlan (input : Input) (starts : List ℕ) (n lower : ℕ) : Type 0 where
  pub plan : IsPlan input starts
  pub cost_is : n ≡ cost input starts
  pub lower_bound : IsLowerBound input lower

-- an answer is true of a problem up to a horizon
abbrev pub IsAnswerUpTo : Input → ℕ → PlanAnswer → Type 0
IsAnswerUpTo input horizon (Optimal starts n) = IsOptimalPlan input starts.items n
IsAnswerUpTo input horizon (Between starts n lower) = IsBoundedPlan input starts.items n lower
IsAnswerUpTo input horizon NoPlan = HasNoPlan input horizon
IsAnswerUpTo input horizon (Unknown lower) = IsLowerBound input lower
