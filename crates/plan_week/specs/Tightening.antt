-- Shortest plans of a week in which no activity is later than so much (docs/definitions.md,
-- "Weeks").
use Rattle.std.specs.Prelude.{◌≡◌, ℕ, ◌≤◌, ◌<◌, ◌^◌, List, Option, Some, None}
use Rattle.plan_solve.specs.declared.plans.PlanAnswer.{PlanAnswer}
use Rattle.plan_solve.specs.declared.plans.PlanAnswer.TheVariants.{Optimal, Between, NoPlan, Unknown}
use Rattle.plan_week.specs.declared.week.Week.{Week}
use Rattle.plan_week.specs.declared.tightening.Tightened.{Tightened}
use Rattle.plan_week.specs.declared.tightening.Found.{Found}
use Rattle.plan_week.specs.Weeks.{IsWeekPlan, makespan_of}
use Rattle.plan_week.specs.WeekAnswers.{IsPlanOf}
use Rattle.plan_week.specs.Tardiness.{greatest_tardiness}

-- no plan of a week in which no activity is later than so much ends before an instant
abbrev pub IsBoundWithin : Week → ℕ → ℕ → Type 0
IsBoundWithin week late lower =
    (starts : List ℕ) → IsWeekPlan week starts → greatest_tardiness week starts ≤ late → lower ≤ makespan_of week starts

-- a plan of a week with its makespan, in which no activity is later than so much, and a lower bound
-- of the makespans of all such plans
pub record IsTightest (week : Week) (late : ℕ) (starts : List ℕ) (makespan lower : ℕ) : Type 0 where
  pub plan : IsPlanOf week starts makespan
  pub in_time : greatest_tardiness week starts ≤ late
  pub bound : IsBoundWithin week late lower

abbrev pub IsTightenedOf : Week → ℕ → Tightened → Type 0
IsTightenedOf week late tightened = IsTightest week late tightened.starts.items tightened.makespan tightened.lower

-- the plan that a search has found, with numbers below 2^32
abbrev pub IsFoundIn : PlanAnswer → Option Found → Type 0
IsFoundIn (Optimal starts cost) found =
    (found ≡ Some (record { starts = starts; makespan = cost; lower = cost })) × (cost < 2 ^ 32)
IsFoundIn (Between starts cost lower) found =
    (found ≡ Some (record { starts = starts; makespan = cost; lower = lower })) × (lower < 2 ^ 32)
IsFoundIn NoPlan found = found ≡ None
IsFoundIn (Unknown lower) found = found ≡ None
