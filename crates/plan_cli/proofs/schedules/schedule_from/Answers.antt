use Rattle.std.proofs.Common.{IfOk, sym, subst}
use Rattle.plan_cli.specs.Scheduled.{IsMadeFrom}
use Rattle.plan_cli.specs.declared.origins.Origin.{Origin}
use Rattle.plan_cli.proofs.schedules.schedule_from.Goals as goal

pub returns-in-Rule-clause-made : goal.returns-in-Rule-clause-made
returns-in-Rule-clause-made g c =
    subst (λ (o : Origin). IfOk c.ruled_schedule.result (IsMadeFrom o c.args.plan.now)) (sym c.in-Rule.is) c.ruled_schedule.ensures.made

pub returns-in-Starts-clause-made : goal.returns-in-Starts-clause-made
returns-in-Starts-clause-made g c =
    subst (λ (o : Origin). IfOk c.given_schedule.result (IsMadeFrom o c.args.plan.now)) (sym c.in-Starts.is) c.given_schedule.ensures.made

pub returns-in-Solved-clause-made : goal.returns-in-Solved-clause-made
returns-in-Solved-clause-made g c =
    subst (λ (o : Origin). IfOk c.solved_schedule.result (IsMadeFrom o c.args.plan.now)) (sym c.in-Solved.is) c.solved_schedule.ensures.made
