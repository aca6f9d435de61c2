use Rattle.plan_exact.specs.Laws.{WordsAreListed}
use Rattle.plan_exact.proofs.WordLemmas.{words_listed}
use Rattle.plan_exact.proofs.laws.words_are_listed.Goals as goal

pub returns : goal.returns
unfolding WordsAreListed
returns c = words_listed
