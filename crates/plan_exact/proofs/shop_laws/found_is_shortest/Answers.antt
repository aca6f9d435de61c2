use Rattle.plan_exact.proofs.ShopTreeLemmas.{found_is_shortest}
use Rattle.plan_exact.proofs.shop_laws.found_is_shortest.Goals as goal

pub returns : goal.returns
returns c = found_is_shortest
