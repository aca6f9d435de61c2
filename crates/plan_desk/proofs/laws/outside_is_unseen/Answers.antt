use Rattle.plan_desk.proofs.LawLemmas.{outside_is_unseen}
use Rattle.plan_desk.proofs.laws.outside_is_unseen.Goals as goal

pub returns : goal.returns
returns c = outside_is_unseen
