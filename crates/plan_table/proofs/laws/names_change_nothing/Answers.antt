use Rattle.plan_table.proofs.NameLineLemmas as lemmas
use Rattle.plan_table.proofs.laws.names_change_nothing.Goals as goal

pub returns : goal.returns
returns c = lemmas.names_change_nothing
