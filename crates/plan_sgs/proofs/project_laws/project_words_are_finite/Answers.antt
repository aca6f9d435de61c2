-- Words are finite, and each word that isn't full can be continued.
use Rattle.plan_sgs.proofs.FullWordLemmas.{words_are_finite, words_go_on}
use Rattle.plan_sgs.proofs.project_laws.project_words_are_finite.Goals as goal

pub returns-clause-finite : goal.returns-clause-finite
returns-clause-finite c = words_are_finite

pub returns-clause-go_on : goal.returns-clause-go_on
returns-clause-go_on c = words_go_on
