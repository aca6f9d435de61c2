-- Shortest plans of a week in which no activity is later than so much.
use Rattle.std.proofs.Common.{◌≡◌, ◌∙◌, ℕ, ◌≤◌, ◌<◌, ◌^◌, inl, inr, List, Option, Some, None, sym, subst, arith}
use Rattle.std.specs.Option.{IfSome}
use Rattle.plan_sgs.specs.Problem.{count}
use Rattle.plan_sgs.proofs.TotalLemmas.{greatest_above}
use Rattle.plan_kernel.specs.declared.input.Input.{Input}
use Rattle.plan_kernel.specs.Plans as plans
use Rattle.plan_solve.specs.declared.plans.PlanAnswer.{PlanAnswer}
use Rattle.plan_solve.specs.declared.plans.PlanAnswer.TheVariants.{Optimal, Between, NoPlan, Unknown}
use Rattle.plan_solve.specs.PlanAnswers.{IsAnswerUpTo}
use Rattle.plan_week.specs.declared.week.Week.{Week}
use Rattle.plan_week.specs.declared.tightening.Found.{Found}
use Rattle.plan_week.specs.Weeks.{project_of, end_of, makespan_of, IsWeekPlan}
use Rattle.plan_week.specs.Tardiness.{greatest_tardiness, HasPlansWithin}
use Rattle.plan_week.specs.Tightening.{IsBoundWithin, IsTightest, IsFoundIn}
use Rattle.plan_week.proofs.AnswerLemmas.{small_or_not}

-- a lower bound of all costs is one of the makespans of all plans that are no later
bound_within : (week : Week) (late : ℕ) (input : Input) (lower : ℕ) → HasPlansWithin week late input → lower ≤ 2 ^ 32 → plans.IsLowerBound input lower
    → IsBoundWithin week late lower
bound_within week late input lower has most bound starts plan in_time = elim (small_or_not starts) [
  | inl small ↦ omega (arith, bound starts (has.all starts plan in_time small), has.costs starts)
  | inr (i, inside, large) ↦ omega (arith, large, most, greatest_above (count (project_of week)) (end_of week starts) i (omega (arith, inside, plan.each_started)))
]

tightest : (week : Week) (late : ℕ) (input : Input) (starts : List ℕ) (n lower : ℕ) → HasPlansWithin week late input → plans.IsPlan input starts → n ≡ plans.cost input starts
    → lower ≤ 2 ^ 32 → plans.IsLowerBound input lower → IsTightest week late starts n lower
tightest week late input starts n lower has plan is most bound = record {
  plan = record { plan = has.plans starts plan; makespan_is = is ∙ has.costs starts };
  in_time = has.in_time starts plan;
  bound = bound_within week late input lower has most bound;
}

-- the plan that a search has found is the tightest one, as far as is known
pub found_of_week : (week : Week) (late : ℕ) (input : Input) (horizon : ℕ) (answer : PlanAnswer) (found : Option Found) → HasPlansWithin week late input
    → IsAnswerUpTo input horizon answer → IsFoundIn answer found → IfSome found (λ f. IsTightest week late f.starts.items f.makespan f.lower)
found_of_week week late input horizon (Optimal starts n) found has holds same =
    subst (λ (o : Option Found). IfSome o (λ f. IsTightest week late f.starts.items f.makespan f.lower)) (sym same.0)
    (tightest week late input starts.items n n has holds.least.plan holds.cost_is (omega (arith, same.1)) (λ other plan. omega (arith, holds.least.least other plan, holds.cost_is)))
found_of_week week late input horizon (Between starts n lower) found has holds same =
    subst (λ (o : Option Found). IfSome o (λ f. IsTightest week late f.starts.items f.makespan f.lower)) (sym same.0)
    (tightest week late input starts.items n lower has holds.plan holds.cost_is (omega (arith, same.1)) holds.lower_bound)
found_of_week week late input horizon NoPlan found has holds same =
    subst (λ (o : Option Found). IfSome o (λ f. IsTightest week late f.starts.items f.makespan f.lower)) (sym same) tt
found_of_week week late input horizon (Unknown lower) found has holds same =
    subst (λ (o : Option Found). IfSome o (λ f. IsTightest week late f.starts.items f.makespan f.lower)) (sym same) tt

-- a plan as it was, with the least lower bound
pub as_it_was : (week : Week) (late : ℕ) (starts copy : List ℕ) (n : ℕ) → copy ≡ starts → IsWeekPlan week starts → greatest_tardiness week starts ≤ late → n ≡ makespan_of week starts
    → IsTightest week late copy n 0
as_it_was week late starts copy n same plan in_time is = subst (λ (xs : List ℕ). IsTightest week late xs n 0) (sym same) (record {
  plan = record { plan = plan; makespan_is = is };
  in_time = in_time;
  bound = λ other planned most. omega arith;
})
