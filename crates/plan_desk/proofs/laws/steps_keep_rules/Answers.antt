use Rattle.plan_desk.proofs.FitLemmas.{steps_keep_rules}
use Rattle.plan_desk.proofs.AloneLemmas.{alone_keeps_rules}
use Rattle.plan_desk.proofs.laws.steps_keep_rules.Goals as goal

pub returns-clause-steps : goal.returns-clause-steps
returns-clause-steps c = steps_keep_rules

pub returns-clause-alone : goal.returns-clause-alone
returns-clause-alone c = alone_keeps_rules
