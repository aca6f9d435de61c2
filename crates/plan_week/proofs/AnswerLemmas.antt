-- Answers of a search over the plans of a week.
use Rattle.std.proofs.Common.{◌≡◌, ◌∙◌, ℕ, suc, ◌+◌, ◌≤◌, ◌<◌, ◌^◌, ◌⊎◌, inl, inr, List, [], ◌∷◌, length, get_or, sym, subst, arith}
use Rattle.std.proofs.lemmas.Bool.{cases_lt}
use Rattle.std.proofs.lemmas.List.Elements.{All-nil, All-cons}
use Rattle.plan_sgs.specs.Problem.{count}
use Rattle.plan_sgs.proofs.TotalLemmas.{greatest_above}
use Rattle.plan_kernel.specs.declared.input.Input.{Input}
use Rattle.plan_kernel.specs.Plans as plans
use Rattle.plan_solve.specs.declared.plans.PlanAnswer.{PlanAnswer}
use Rattle.plan_solve.specs.declared.plans.PlanAnswer.TheVariants.{Optimal, Between, NoPlan, Unknown}
use Rattle.plan_solve.specs.PlanAnswers.{IsAnswerUpTo}
use Rattle.plan_week.specs.declared.week.Week.{Week}
use Rattle.plan_week.specs.declared.answer.WeekAnswer.{WeekAnswer}
use Rattle.plan_week.specs.Weeks.{project_of, end_of, makespan_of, IsWeekPlan}
use Rattle.plan_week.specs.Inputs.{AreSmall, HasPlansOf}
use Rattle.plan_week.specs.WeekAnswers.{IsLowerBound, IsPlanOf, IsAnswerOf, IsSameAnswer}

-- all starts are small, or one isn't
pub small_or_not : (starts : List ℕ) → AreSmall starts ⊎ ((i : ℕ) × (i < length starts) × (2 ^ 32 ≤ get_or starts i 0))
small_or_not [] = inl (All-nil (λ t. t < 2 ^ 32))
small_or_not (t ∷ ts) = elim (cases_lt t (2 ^ 32)) [
  | inr large ↦ inr (0, omega arith, large)
  | inl small ↦ elim (small_or_not ts) [
    | inl all ↦ inl (All-cons (λ x. x < 2 ^ 32) t ts small all)
    | inr (i, inside, large) ↦ inr (suc i, omega (arith, inside), large)
  ]
]

-- a lower bound of all costs is one of all makespans
pub bound_of_week : (week : Week) (input : Input) (lower : ℕ) → HasPlansOf week input → lower ≤ 2 ^ 32 → plans.IsLowerBound input lower → IsLowerBound week lower
bound_of_week week input lower has most bound starts plan = elim (small_or_not starts) [
  | inl small ↦ omega (arith, bound starts (has.all starts plan small), has.costs starts)
  | inr (i, inside, large) ↦ omega (arith, large, most, greatest_above (count (project_of week)) (end_of week starts) i (omega (arith, inside, plan.each_started)))
]

-- a plan of the problem with its cost is one of the week with its makespan
pub plan_of_week : (week : Week) (input : Input) (starts : List ℕ) (n : ℕ) → HasPlansOf week input → plans.IsPlan input starts → n ≡ plans.cost input starts → IsPlanOf week starts n
plan_of_week week input starts n has plan is = record { plan = has.plans starts plan; makespan_is = is ∙ has.costs starts }

-- the answer of a search over the plans of a problem is true of its week
pub answer_of_week : (week : Week) (input : Input) (limit : ℕ) (found : PlanAnswer) (answer : WeekAnswer) → HasPlansOf week input → limit < 2 ^ 32
    → IsAnswerUpTo input limit found → IsSameAnswer found answer → IsAnswerOf week limit answer
answer_of_week week input limit (Optimal starts n) answer has small holds same = subst (λ (a : WeekAnswer). IsAnswerOf week limit a) (sym same.0) (record {
  plan = plan_of_week week input starts.items n has holds.least.plan holds.cost_is;
  least = bound_of_week week input n has (omega (arith, same.1)) (λ other plan. omega (arith, holds.least.least other plan, holds.cost_is));
})
answer_of_week week input limit (Between starts n lower) answer has small holds same = subst (λ (a : WeekAnswer). IsAnswerOf week limit a) (sym same.0) (record {
  plan = plan_of_week week input starts.items n has holds.plan holds.cost_is;
  bound = bound_of_week week input lower has (omega (arith, same.1)) holds.lower_bound;
})
answer_of_week week input limit NoPlan answer has small holds same = subst (λ (a : WeekAnswer). IsAnswerOf week limit a) (sym same)
    (λ starts plan. omega (arith, bound_of_week week input (limit + 1) has (omega (arith, small)) (λ other planned. omega (arith, holds other planned)) starts plan))
answer_of_week week input limit (Unknown lower) answer has small holds same = subst (λ (a : WeekAnswer). IsAnswerOf week limit a) (sym same.0)
    (bound_of_week week input lower has (omega (arith, same.1)) holds)
