use Rattle.plan_shop.proofs.ShopBound.{bound_is_least, shop_bound_holds}
use Rattle.plan_shop.proofs.laws.bounds_hold.Goals as goal

pub returns-clause-continued : goal.returns-clause-continued
returns-clause-continued c = bound_is_least

pub returns-clause-below : goal.returns-clause-below
returns-clause-below c = shop_bound_holds
