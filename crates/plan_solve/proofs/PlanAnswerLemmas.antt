-- Answers of a search for a plan of least cost.
use Rattle.std.proofs.Common.{◌≡◌, ◌∙◌, ℕ, ◌≤◌, ◌<◌, List, sym, subst, arith}
use Rattle.plan_kernel.specs.declared.input.Input.{Input}
use Rattle.plan_kernel.specs.Plans.{IsLowerBound, HasSameNumbers}
use Rattle.plan_kernel.specs.Kernels.{IsBest}
use Rattle.plan_kernel.proofs.PlanLemmas.{same_plan, same_cost, same_lower, same_least}
use Rattle.plan_solve.specs.declared.plans.PlanAnswer.{PlanAnswer}
use Rattle.plan_solve.specs.declared.plans.PlanAnswer.TheVariants.{Optimal, Between, NoPlan, Unknown}
use Rattle.plan_solve.specs.PlanAnswers.{HasNoPlan, IsOptimalPlan, IsBoundedPlan, IsAnswerUpTo}

-- the best plan, if a lower bound is as great as its cost
pub optimal_plan : (input : Input) (starts copy : List ℕ) (upper lower : ℕ) → copy ≡ starts → IsBest input starts upper → IsLowerBound input lower → upper ≤ lower
    → IsOptimalPlan input copy upper
optimal_plan input starts copy upper lower same best bound met = subst (λ (xs : List ℕ). IsOptimalPlan input xs upper) (sym same) (record {
  least = record {
    plan = best.plan;
    least = λ other plan. omega (arith, best.cost_is, bound other plan, met);
  };
  cost_is = sym best.cost_is;
})

-- the best plan with a lower bound
pub bounded_plan : (input : Input) (starts copy : List ℕ) (upper lower : ℕ) → copy ≡ starts → IsBest input starts upper → IsLowerBound input lower
    → IsBoundedPlan input copy upper lower
bounded_plan input starts copy upper lower same best bound = subst (λ (xs : List ℕ). IsBoundedPlan input xs upper lower) (sym same) (record {
  plan = best.plan;
  cost_is = sym best.cost_is;
  lower_bound = bound;
})

-- a lower bound above a horizon
pub no_plan : (input : Input) (lower horizon : ℕ) → IsLowerBound input lower → horizon < lower → HasNoPlan input horizon
no_plan input lower horizon bound above starts plan = omega (arith, bound starts plan, above)

-- an answer to a problem is one to the same problem with other orders
pub same_answer : (one other : Input) (horizon : ℕ) (answer : PlanAnswer) → HasSameNumbers one other → IsAnswerUpTo one horizon answer → IsAnswerUpTo other horizon answer
same_answer one other horizon (Optimal starts n) same holds = record {
  least = same_least one other starts.items same holds.least;
  cost_is = holds.cost_is ∙ same_cost one other starts.items same;
}
same_answer one other horizon (Between starts n lower) same holds = record {
  plan = same_plan one other starts.items same holds.plan;
  cost_is = holds.cost_is ∙ same_cost one other starts.items same;
  lower_bound = same_lower one other lower same holds.lower_bound;
}
same_answer one other horizon NoPlan same holds =
    λ starts plan. omega (arith, holds starts (same_plan other one starts (sym same) plan), same_cost one other starts same)
same_answer one other horizon (Unknown lower) same holds = same_lower one other lower same holds
