use Rattle.plan_sgs.specs.Laws.{EarliestIsLeast}
use Rattle.plan_sgs.proofs.AmountLemmas.{earliest_is}
use Rattle.plan_sgs.proofs.laws.earliest_is_least.Goals as goal

pub returns : goal.returns
unfolding EarliestIsLeast
returns c = λ p placed j fit inside. earliest_is p placed j fit inside
