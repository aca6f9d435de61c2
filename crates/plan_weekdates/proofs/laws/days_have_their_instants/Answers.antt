use Rattle.plan_weekdates.proofs.LawLemmas as lemmas
use Rattle.plan_weekdates.proofs.laws.days_have_their_instants.Goals as goal

pub returns : goal.returns
returns c = lemmas.days_have_their_instants
