-- The values of commands for a plan, and their error lines. Only private clauses use them.
use Rattle.std.specs.Prelude.{ℕ, List}
use Rattle.plan_cli.specs.BestRun.{TellsNoBestOf}
use Rattle.plan_cli.specs.CheckRun.{TellsBadStarts}
use Rattle.plan_cli.specs.CompareRun.{TellsNotCompared}
use Rattle.plan_cli.specs.DaysRun.{TellsNoDaysFrom}
use Rattle.plan_cli.specs.ListComparisons.{IsListsView, TellsNoLists}
use Rattle.plan_cli.specs.Scheduled.{TellsNoRuleOf, TellsNotMade}
use Rattle.plan_cli.specs.SolveRun.{TellsNoSolution}
use Rattle.plan_cli.specs.TaskViews.{IsBestViewOf, IsChartViewFrom, IsComparedView}
use Rattle.plan_cli.specs.TaskViews.{IsDaysViewFrom, IsSolvedViewBy, IsTableViewBy, IsVerdictView}
use Rattle.plan_cli.specs.Views.{View}
use Rattle.plan_cli.specs.declared.commands.Command.{Command}
use Rattle.plan_cli.specs.declared.commands.Command.TheVariants as command
use Rattle.plan_documents.specs.declared.documents.Plan.{Plan}

-- the value of a command for a plan
abbrev pub IsPlanView : Command → Plan → View → Type 0
IsPlanView (command.Schedule rule) = IsTableViewBy rule.now
IsPlanView (command.Chart from) = IsChartViewFrom from
IsPlanView (command.Days from dates style) = IsDaysViewFrom from dates style
IsPlanView (command.Check starts) = IsVerdictView starts.now
IsPlanView (command.Compare starts) = IsComparedView starts.a.now starts.b.now
IsPlanView (command.CompareLists of old starts) =
    IsListsView of old.now starts.a.now starts.b.now
IsPlanView (command.Best budget) = IsBestViewOf budget.now
IsPlanView (command.Solve conflicts) = IsSolvedViewBy

-- the error lines of a command for a plan
abbrev pub IsPlanLine : Command → Plan → List ℕ → Type 0
IsPlanLine (command.Schedule rule) = TellsNoRuleOf rule.now
IsPlanLine (command.Chart from) = TellsNotMade from
IsPlanLine (command.Days from dates style) = TellsNoDaysFrom from dates style
IsPlanLine (command.Check starts) = TellsBadStarts starts.now
IsPlanLine (command.Compare starts) = TellsNotCompared starts.a.now starts.b.now
IsPlanLine (command.CompareLists of old starts) =
    TellsNoLists of old.now starts.a.now starts.b.now
IsPlanLine (command.Best budget) = TellsNoBestOf budget.now
IsPlanLine (command.Solve conflicts) = TellsNoSolution
