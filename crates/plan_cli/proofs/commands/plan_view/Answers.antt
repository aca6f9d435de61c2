use Rattle.std.proofs.Common.{sym, subst}
use Rattle.plan_cli.specs.Views.{IfView}
use Rattle.plan_cli.specs.Commands.{IsPlanView}
use Rattle.plan_cli.specs.declared.commands.Command.{Command}
use Rattle.plan_cli.proofs.commands.plan_view.Goals as goal

pub returns-in-Schedule-clause-made : goal.returns-in-Schedule-clause-made
returns-in-Schedule-clause-made g c =
    subst (λ (m : Command). IfView c.schedule_of.result (IsPlanView m c.args.plan.now)) (sym c.in-Schedule.is) c.schedule_of.ensures.made

pub returns-in-Chart-clause-made : goal.returns-in-Chart-clause-made
returns-in-Chart-clause-made g c =
    subst (λ (m : Command). IfView c.chart_from.result (IsPlanView m c.args.plan.now)) (sym c.in-Chart.is) c.chart_from.ensures.made

pub returns-in-Days-clause-made : goal.returns-in-Days-clause-made
returns-in-Days-clause-made g c =
    subst (λ (m : Command). IfView c.days_from.result (IsPlanView m c.args.plan.now)) (sym c.in-Days.is) c.days_from.ensures.made

pub returns-in-Solve-clause-made : goal.returns-in-Solve-clause-made
returns-in-Solve-clause-made g c =
    subst (λ (m : Command). IfView c.solution_view.result (IsPlanView m c.args.plan.now)) (sym c.in-Solve.is) c.solution_view.ensures.made

pub returns-in-Check-clause-made : goal.returns-in-Check-clause-made
returns-in-Check-clause-made g c =
    subst (λ (m : Command). IfView c.verdict_on.result (IsPlanView m c.args.plan.now)) (sym c.in-Check.is) c.verdict_on.ensures.made
