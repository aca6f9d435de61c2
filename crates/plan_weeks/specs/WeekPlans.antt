-- Plans for a goal: the shortest plan of a week, or the shortest one among the least tardy.
use Rattle.std.specs.Prelude.{ℕ, List, Option, Some, None}
use Rattle.plan_solve.specs.Solutions.{IsConflictLimit}
use Rattle.plan_week.specs.declared.week.Week.{Week}
use Rattle.plan_week.specs.Overloads.{IsFirstOverload}
use Rattle.plan_week.specs.TardinessAnswers.{IsTardinessBound}
use Rattle.plan_week.specs.Tightening.{IsTightest}
use Rattle.plan_week.specs.WeekAnswers.{IsBoundedOf}
use Rattle.plan_week.specs.Weeks.{IsWeekPlan}
use Rattle.plan_weeks.specs.declared.planning.Goal.{Goal}
use Rattle.plan_weeks.specs.declared.planning.Goal.TheVariants as goals
use Rattle.plan_weeks.specs.declared.planning.Lateness.{Lateness}
use Rattle.plan_weeks.specs.declared.planning.WeekPlan.{WeekPlan}
use Rattle.plan_weeks.specs.declared.fault.PlanFault.{PlanFault}
use Rattle.plan_weeks.specs.declared.fault.PlanFault.TheVariants as faults

-- A plan in which no activity is later than a number, and no plan's greatest tardiness is below a
-- bound. Its makespan, and a lower bound of those of all plans that are no later.
pub record IsTimely (week : Week) (p : WeekPlan) (lateness : Lateness) : Type 0 where
  pub tightest : IsTightest week lateness.late p.starts.items p.makespan p.lower
  pub least : IsTardinessBound week lateness.least

-- a plan of a week for a goal, with what is proved of all plans
abbrev pub IsPlanFor : Week → WeekPlan → Goal → Option Lateness → Type 0
IsPlanFor week p goals.Makespan None = IsBoundedOf week p.starts.items p.makespan p.lower
IsPlanFor week p goals.Makespan (Some lateness) = ⊥
IsPlanFor week p goals.Tardiness None = ⊥
IsPlanFor week p goals.Tardiness (Some lateness) = IsTimely week p lateness

abbrev pub IsPlanned : Goal → Week → WeekPlan → Type 0
IsPlanned goal week p = IsPlanFor week p goal p.lateness

-- a week has no plan at all
abbrev pub HasNoPlan : Week → Type 0
HasNoPlan week = (starts : List ℕ) → IsWeekPlan week starts → ⊥

-- the reason for no plan; nothing is claimed if none was found, or if memory ran out
abbrev pub IsNoPlan : ℕ → Week → PlanFault → Type 0
IsNoPlan conflicts week faults.Memory = Unit {0}
IsNoPlan conflicts week faults.BadConflicts = IsConflictLimit conflicts → ⊥
IsNoPlan conflicts week (faults.Overload overload) = IsFirstOverload week overload
IsNoPlan conflicts week faults.Impossible = HasNoPlan week
IsNoPlan conflicts week faults.NotFound = Unit {0}
