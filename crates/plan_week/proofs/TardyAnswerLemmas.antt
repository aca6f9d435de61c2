-- Answers of a search for the least tardy plan of a week.
use Rattle.std.proofs.Common.{◌≡◌, ◌∙◌, ℕ, ◌+◌, ◌-◌, ◌≤◌, ◌<◌, ◌^◌, inl, inr, List, length, get_or, sym, ap, subst, arith}
use Rattle.plan_sgs.specs.Problem.{count}
use Rattle.plan_sgs.proofs.TotalLemmas.{greatest_above}
use Rattle.plan_kernel.specs.declared.input.Input.{Input}
use Rattle.plan_kernel.specs.Plans as plans
use Rattle.plan_solve.specs.declared.plans.PlanAnswer.{PlanAnswer}
use Rattle.plan_solve.specs.declared.plans.PlanAnswer.TheVariants.{Optimal, Between, NoPlan, Unknown}
use Rattle.plan_solve.specs.PlanAnswers.{IsAnswerUpTo}
use Rattle.plan_week.specs.declared.week.Week.{Week}
use Rattle.plan_week.specs.declared.tardiness.TardyAnswer.{TardyAnswer}
use Rattle.plan_week.specs.Weeks.{project_of, end_of, makespan_of, IsWeekPlan}
use Rattle.plan_week.specs.Inputs.{AreSmall}
use Rattle.plan_week.specs.Tardiness.{latest_due, tardiness_of, greatest_tardiness, HasTardiness}
use Rattle.plan_week.specs.TardinessAnswers.{IsTardinessBound, IsTardyOf, IsTardyAnswerOf, IsSameTardiness}
use Rattle.plan_week.proofs.AnswerLemmas.{small_or_not}
use Rattle.plan_week.proofs.TardinessLemmas.{due_most}

-- a lower bound of all costs less the latest due date is one of all tardiness
bound_of_tardiness : (week : Week) (input : Input) (lower : ℕ) → HasTardiness week input → lower ≤ 2 ^ 32 → plans.IsLowerBound input lower
    → IsTardinessBound week (lower - latest_due week)
bound_of_tardiness week input lower has most bound starts plan = elim (small_or_not starts) [
  | inl small ↦ omega (arith, bound starts (has.all starts plan small), has.costs starts)
  | inr (i, inside, large) ↦
      let within : i < count (project_of week) = omega (arith, inside, plan.each_started) in
      omega (arith, large, most, due_most week i within, greatest_above (count (project_of week)) (tardiness_of week starts) i within)
]

tardy_of : (week : Week) (input : Input) (starts : List ℕ) (n lower : ℕ) → HasTardiness week input → plans.IsPlan input starts → n ≡ plans.cost input starts → lower ≤ 2 ^ 32
    → plans.IsLowerBound input lower → IsTardyOf week starts (n - latest_due week) (lower - latest_due week)
tardy_of week input starts n lower has plan is most bound = record {
  plan = has.plans starts plan;
  late_is = ap (λ (x : ℕ). x - latest_due week) is ∙ has.costs starts;
  bound = bound_of_tardiness week input lower has most bound;
}

-- the answer of a search over the costs of a problem is true of its week
pub tardy_answer_of : (week : Week) (input : Input) (limit horizon : ℕ) (found : PlanAnswer) (answer : TardyAnswer) → HasTardiness week input → horizon < 2 ^ 32
    → limit + latest_due week ≡ horizon → IsAnswerUpTo input horizon found → IsSameTardiness (latest_due week) found answer → IsTardyAnswerOf week limit answer
tardy_answer_of week input limit horizon (Optimal starts n) answer has small sum holds same = subst (λ (a : TardyAnswer). IsTardyAnswerOf week limit a) (sym same.0)
    (tardy_of week input starts.items n n has holds.least.plan holds.cost_is (omega (arith, same.1)) (λ other plan. omega (arith, holds.least.least other plan, holds.cost_is)))
tardy_answer_of week input limit horizon (Between starts n lower) answer has small sum holds same = subst (λ (a : TardyAnswer). IsTardyAnswerOf week limit a) (sym same.0)
    (tardy_of week input starts.items n lower has holds.plan holds.cost_is (omega (arith, same.1)) holds.lower_bound)
tardy_answer_of week input limit horizon NoPlan answer has small sum holds same = subst (λ (a : TardyAnswer). IsTardyAnswerOf week limit a) (sym same) none where
  none : (starts : List ℕ) → IsWeekPlan week starts → limit < makespan_of week starts
  none starts plan = elim (small_or_not starts) [
    | inl few ↦ omega (arith, holds starts (has.all starts plan few), has.within starts, sum)
    | inr (i, inside, large) ↦
        omega (arith, large, small, sum, greatest_above (count (project_of week)) (end_of week starts) i (omega (arith, inside, plan.each_started)))
  ]
tardy_answer_of week input limit horizon (Unknown lower) answer has small sum holds same = subst (λ (a : TardyAnswer). IsTardyAnswerOf week limit a) (sym same.0)
    (bound_of_tardiness week input lower has (omega (arith, same.1)) holds)
