use Rattle.plan_cli.proofs.RuleLemmas.{no_rule}
use Rattle.plan_cli.proofs.rules.project_schedule_by.Goals as goal

pub returns-in-Err-clause-refused : goal.returns-in-Err-clause-refused
returns-in-Err-clause-refused c =
    no_rule c.args.name.now c.args.instance.now _ c.rule_refusal.result c.in-Err.ensures.refused c.rule_refusal.ensures.told
