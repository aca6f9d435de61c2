use Rattle.plan_errors.proofs.HintLemmas.{advice_pushed}
use Rattle.plan_errors.proofs.hints.push_advice.Goals as goal

pub returns : goal.returns
returns c = advice_pushed c.args.context c.args.fault.now _ _ _ _ _ _ _ c.push_command.result c.subject-about.ensures c.argument.ensures c.code.ensures c.in_ok-push_argument.ensures c.in_ok-push_cause.ensures c.push_command.ensures
