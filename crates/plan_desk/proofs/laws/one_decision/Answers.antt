use Rattle.plan_desk.proofs.LawLemmas.{one_decision}
use Rattle.plan_desk.proofs.laws.one_decision.Goals as goal

pub returns : goal.returns
returns c = one_decision
