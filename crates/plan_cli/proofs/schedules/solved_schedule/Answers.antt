use Rattle.plan_cli.proofs.OriginLemmas.{made_by_search}
use Rattle.plan_cli.proofs.schedules.solved_schedule.Goals as goal

pub returns-clause-made : goal.returns-clause-made
returns-clause-made g c = made_by_search c.args.conflicts c.args.plan.now c.in_ok-solved.solved c.in_ok-solved.ensures
