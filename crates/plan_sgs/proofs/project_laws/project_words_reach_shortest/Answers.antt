-- Some full word is shortest.
use Rattle.plan_sgs.proofs.FullWordLemmas.{words_reach, least_is_shortest}
use Rattle.plan_sgs.proofs.project_laws.project_words_reach_shortest.Goals as goal

pub returns-clause-reach : goal.returns-clause-reach
returns-clause-reach c = words_reach

pub returns-clause-shortest : goal.returns-clause-shortest
returns-clause-shortest c = least_is_shortest
