use Rattle.plan_shop.proofs.WordCount.{words_are_finite}
use Rattle.plan_shop.proofs.laws.words_are_finite.Goals as goal

pub returns : goal.returns
returns c = words_are_finite
