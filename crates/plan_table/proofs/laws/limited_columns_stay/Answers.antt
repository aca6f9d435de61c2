use Rattle.plan_table.proofs.SettlementLemmas as lemmas
use Rattle.plan_table.proofs.laws.limited_columns_stay.Goals as goal

pub returns : goal.returns
returns c = lemmas.limited_columns_stay
