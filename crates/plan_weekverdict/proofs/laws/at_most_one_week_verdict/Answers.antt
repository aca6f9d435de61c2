use Rattle.plan_weekverdict.proofs.VerdictLemmas.{at_most_one}
use Rattle.plan_weekverdict.proofs.laws.at_most_one_week_verdict.Goals as goal

pub returns : goal.returns
returns c = at_most_one
