use Rattle.plan_shop.proofs.Earlier.{letter_is_there}
use Rattle.plan_shop.proofs.WordsReach.{words_reach, least_word_is_shortest}
use Rattle.plan_shop.proofs.laws.words_reach_shortest.Goals as goal

pub returns-clause-letter : goal.returns-clause-letter
returns-clause-letter c = letter_is_there

pub returns-clause-reach : goal.returns-clause-reach
returns-clause-reach c = words_reach

pub returns-clause-shortest : goal.returns-clause-shortest
returns-clause-shortest c = least_word_is_shortest
