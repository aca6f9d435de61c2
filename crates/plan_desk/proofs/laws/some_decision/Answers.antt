use Rattle.plan_desk.proofs.SomeLemmas.{some_decision}
use Rattle.plan_desk.proofs.laws.some_decision.Goals as goal

pub returns : goal.returns
returns c = some_decision
