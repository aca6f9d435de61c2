use Rattle.plan_cli.proofs.RuleLemmas.{no_shop_rule}
use Rattle.plan_cli.proofs.rules.shop_schedule_by.Goals as goal

pub returns-in-Err-clause-refused : goal.returns-in-Err-clause-refused
returns-in-Err-clause-refused c =
    no_shop_rule c.args.name.now _ c.rule_refusal.result c.in-Err.ensures.refused c.rule_refusal.ensures.told
