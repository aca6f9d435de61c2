use Rattle.plan_exact.specs.Laws.{BestIsFirstLeast}
use Rattle.plan_exact.proofs.BestLemmas.{first_least}
use Rattle.plan_exact.proofs.laws.best_is_first_least.Goals as goal

pub returns : goal.returns
unfolding BestIsFirstLeast
returns c = first_least
