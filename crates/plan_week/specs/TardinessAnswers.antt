-- Answers of a search for the least tardy plan of a week (docs/definitions.md, "Weeks").
use Rattle.std.specs.Prelude.{◌≡◌, ℕ, ◌-◌, ◌≤◌, ◌<◌, ◌^◌, List}
use Rattle.plan_solve.specs.declared.plans.PlanAnswer.{PlanAnswer}
use Rattle.plan_solve.specs.declared.plans.PlanAnswer.TheVariants.{Optimal, Between, NoPlan, Unknown}
use Rattle.plan_week.specs.declared.week.Week.{Week}
use Rattle.plan_week.specs.declared.tardiness.TardyAnswer.{TardyAnswer}
use Rattle.plan_week.specs.declared.tardiness.TardyAnswer.TheVariants.{Tardy, NotOnTime, NotKnown}
use Rattle.plan_week.specs.Weeks.{IsWeekPlan}
use Rattle.plan_week.specs.WeekAnswers.{NoneEndsBy}
use Rattle.plan_week.specs.Tardiness.{greatest_tardiness}

-- no plan of a week has a lesser greatest tardiness
abbrev pub IsTardinessBound : Week → ℕ → Type 0
IsTardinessBound week least =
    (starts : List ℕ) → IsWeekPlan week starts → least ≤ greatest_tardiness week starts

-- a plan of a week with its greatest tardiness, and a lower bound of that of all plans
pub record IsTardyOf (week : Week) (starts : List ℕ) (late least : ℕ) : Type 0 where
  pub plan : IsWeekPlan week starts
  pub late_is : late ≡ greatest_tardiness week starts
  pub bound : IsTardinessBound week least

-- an answer is true of a week up to a limit
abbrev pub IsTardyAnswerOf : Week → ℕ → TardyAnswer → Type 0
IsTardyAnswerOf week limit (Tardy starts late least) = IsTardyOf week starts.items late least
IsTardyAnswerOf week limit NotOnTime = NoneEndsBy week limit
IsTardyAnswerOf week limit (NotKnown least) = IsTardinessBound week least

-- the same answer of a search over costs, less the latest due date, with numbers below 2^32
abbrev pub IsSameTardiness : ℕ → PlanAnswer → TardyAnswer → Type 0
IsSameTardiness latest (Optimal starts cost) answer =
    (answer ≡ Tardy starts (cost - latest) (cost - latest)) × (cost < 2 ^ 32)
IsSameTardiness latest (Between starts cost lower) answer =
    (answer ≡ Tardy starts (cost - latest) (lower - latest)) × (lower < 2 ^ 32)
IsSameTardiness latest NoPlan answer = answer ≡ NotOnTime
IsSameTardiness latest (Unknown lower) answer = (answer ≡ NotKnown (lower - latest)) × (lower < 2 ^ 32)
