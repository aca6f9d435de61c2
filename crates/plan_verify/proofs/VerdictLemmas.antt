-- The bounds that a kernel shows.
use Rattle.std.proofs.Common.{◌≡◌, ◌∙◌, ℕ, ◌≤◌, List, sym, arith}
use Rattle.plan_sgs.specs.Problem.{Problem}
use Rattle.plan_kernel.specs.declared.input.Input.{Input}
use Rattle.plan_kernel.specs.Plans as plans
use Rattle.plan_kernel.specs.Kernels as kernels
use Rattle.plan_kernel.proofs.PlanLemmas.{same_least, same_cost, same_lower, plain_plan, plain_feasible, plain_cost, plain_lower}
use Rattle.plan_verify.specs.declared.verdict.Verdict.{Verdict}
use Rattle.plan_verify.specs.declared.verdict.Verdict.TheVariants.{Verified, AtLeast}
use Rattle.plan_verify.specs.Verdicts.{IsTrueOf, IsLeastMakespan, IsTrueOfPlans, IsLeastPlanCost}

-- the cost of a plan that no plan is below
pub is_least : (input : Input) (starts : List ℕ) (upper bound : ℕ) → kernels.IsBest input starts upper
    → plans.IsLowerBound input bound → bound ≤ upper → upper ≤ bound → IsLeastPlanCost input bound
is_least input starts upper bound best lower below above = record {
  starts = starts;
  least_cost = record {
    plan = best.plan;
    least = λ other plan. omega (arith, best.cost_is, lower other plan, above);
  };
  value = omega (arith, best.cost_is, below, above);
}

-- a verdict on a problem is one on the same problem with other orders
pub same_verdict : (one other : Input) (verdict : Verdict) → plans.HasSameNumbers one other → IsTrueOfPlans one verdict → IsTrueOfPlans other verdict
same_verdict one other (Verified least) same holds = record {
  starts = holds.starts;
  least_cost = same_least one other holds.starts same holds.least_cost;
  value = sym (same_cost one other holds.starts same) ∙ holds.value;
}
same_verdict one other (AtLeast bound) same holds = same_lower one other bound same holds

-- without windows, absences and tails it is one on feasible lists of starts
pub plain_verdict : (input : Input) (p : Problem) (verdict : Verdict) → plans.IsPlain input p → IsTrueOfPlans input verdict → IsTrueOf p verdict
plain_verdict input p (Verified least) plain holds =
    let best = holds.least_cost in
    record {
      starts = holds.starts;
      shortest = record {
        feasible = plain_feasible input p holds.starts plain best.plan;
        least = λ other feasible.
            omega (arith, best.least other (plain_plan input p other plain feasible), plain_cost input p holds.starts plain, plain_cost input p other plain);
      };
      value = sym (plain_cost input p holds.starts plain) ∙ holds.value;
    }
plain_verdict input p (AtLeast bound) plain holds = plain_lower input p bound plain holds
