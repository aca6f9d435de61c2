-- The options of the command line for a list with dates.
use Rattle.std.specs.Prelude.{Bool, ◌||◌, is_some, Option, Some, None}
use Rattle.plan_weekfile.specs.declared.order.WeekOrder.{WeekOrder}
use Rattle.plan_weeks.specs.declared.planning.Goal.{Goal}
use Rattle.plan_weeks.specs.declared.planning.Goal.TheVariants as goals

-- an instant or a goal is given
abbrev pub is_asked : WeekOrder → Bool
is_asked order = is_some order.today || is_some order.goal

-- the given goal, or the least makespan
abbrev pub goal_or_makespan : Option Goal → Goal
goal_or_makespan None = goals.Makespan
goal_or_makespan (Some goal) = goal
