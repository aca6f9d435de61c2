use Rattle.plan_sgs.specs.Laws.{LeastOfOrdersIsShortest}
use Rattle.plan_sgs.proofs.LawLemmas.{least_shortest}
use Rattle.plan_sgs.proofs.laws.least_of_orders_is_shortest.Goals as goal

pub returns : goal.returns
unfolding LeastOfOrdersIsShortest
returns c = least_shortest
