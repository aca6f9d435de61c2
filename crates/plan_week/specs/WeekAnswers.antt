-- Answers of a search for the shortest plan of a week (docs/definitions.md, "Weeks").
use Rattle.std.specs.Prelude.{◌≡◌, ℕ, ◌+◌, ◌≤◌, ◌<◌, ◌^◌, max, List, length, get_or, sum_by, Option, Some, None}
use Rattle.plan_sgs.specs.Problem.{count, total, greatest_below}
use Rattle.plan_solve.specs.declared.plans.PlanAnswer.{PlanAnswer}
use Rattle.plan_solve.specs.declared.plans.PlanAnswer.TheVariants.{Optimal, Between, NoPlan, Unknown}
use Rattle.plan_week.specs.declared.week.State.{State}
use Rattle.plan_week.specs.declared.week.State.TheVariants.{Open, Begun, Done}
use Rattle.plan_week.specs.declared.week.Week.{Week}
use Rattle.plan_week.specs.declared.answer.WeekAnswer.{WeekAnswer}
use Rattle.plan_week.specs.declared.answer.WeekAnswer.TheVariants.{Shortest, Bounded, Impossible, NotFound}
use Rattle.plan_week.specs.Weeks.{project_of, state_of, rest_of, no_absence, IsWeekPlan, makespan_of}

-- no plan of a week ends before an instant
abbrev pub IsLowerBound : Week → ℕ → Type 0
IsLowerBound week lower = (starts : List ℕ) → IsWeekPlan week starts → lower ≤ makespan_of week starts

-- no plan of a week ends by an instant
abbrev pub NoneEndsBy : Week → ℕ → Type 0
NoneEndsBy week limit = (starts : List ℕ) → IsWeekPlan week starts → limit < makespan_of week starts

-- a plan of a week with its makespan
pub record IsPlanOf (week : Week) (starts : List ℕ) (makespan : ℕ) : Type 0 where
  pub plan : IsWeekPlan week starts
  pub makespan_is : makespan ≡ makespan_of week starts

-- a shortest plan of a week with its makespan
pub record IsShortestOf (week : Week) (starts : List ℕ) (makespan : ℕ) : Type 0 where
  pub plan : IsPlanOf week starts makespan
  pub least : IsLowerBound week makespan

-- a plan of a week, and a lower bound of the makespans of all
pub record IsBoundedOf (week : Week) (starts : List ℕ) (makespan lower : ℕ) : Type 0 where
  pub plan : IsPlanOf week starts makespan
  pub bound : IsLowerBound week lower

-- an answer is true of a week up to a limit
abbrev pub IsAnswerOf : Week → ℕ → WeekAnswer → Type 0
IsAnswerOf week limit (Shortest starts makespan) = IsShortestOf week starts.items makespan
IsAnswerOf week limit (Bounded starts makespan lower) = IsBoundedOf week starts.items makespan lower
IsAnswerOf week limit Impossible = NoneEndsBy week limit
IsAnswerOf week limit (NotFound lower) = IsLowerBound week lower

-- the same answer of a search over plans, with numbers below 2^32
abbrev pub IsSameAnswer : PlanAnswer → WeekAnswer → Type 0
IsSameAnswer (Optimal starts cost) answer = (answer ≡ Shortest starts cost) × (cost < 2 ^ 32)
IsSameAnswer (Between starts cost lower) answer = (answer ≡ Bounded starts cost lower) × (lower < 2 ^ 32)
IsSameAnswer NoPlan answer = answer ≡ Impossible
IsSameAnswer (Unknown lower) answer = (answer ≡ NotFound lower) × (lower < 2 ^ 32)

-- the instant that an activity waits for by itself
abbrev pub awaited_by : State → ℕ
awaited_by (Open earliest None) = earliest
awaited_by (Open earliest (Some fixed)) = max earliest fixed
awaited_by (Begun began remaining) = 0
awaited_by (Done ended) = 0

-- the latest instant that the activities wait for
abbrev pub latest_awaited : Week → ℕ
latest_awaited week = greatest_below (count (project_of week)) (λ i. awaited_by (state_of week i))

-- the latest end of an absence
abbrev pub latest_return : Week → ℕ
latest_return week = greatest_below (length week.absences.items) (λ j. (get_or week.absences.items j no_absence).until)

-- An instant by which all can be done if it can be done at all: from the latest date that a week
-- names on, one activity after another, with all lags.
abbrev pub limit_of : Week → ℕ
limit_of week =
    max week.today (max (latest_awaited week) (latest_return week))
    + (total (count (project_of week)) (rest_of week) + sum_by (λ arc. arc.lag) week.arcs.items)

-- a week that has a plan has one that ends by its limit
unfoldable pub LimitsAreEnough : Type 0
LimitsAreEnough =
    (week : Week) (starts : List ℕ) → IsWeekPlan week starts
    → (other : List ℕ) × IsWeekPlan week other × (makespan_of week other ≤ limit_of week)
