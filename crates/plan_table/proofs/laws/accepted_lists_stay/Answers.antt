use Rattle.plan_table.proofs.AcceptedLemmas as lemmas
use Rattle.plan_table.proofs.laws.accepted_lists_stay.Goals as goal

pub returns : goal.returns
returns c = lemmas.keeps_lists
