use Rattle.plan_weekverdict.proofs.VerdictLemmas.{plans_have_no_violation}
use Rattle.plan_weekverdict.proofs.laws.plans_have_no_violation.Goals as goal

pub returns : goal.returns
returns c = plans_have_no_violation
