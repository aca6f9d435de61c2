use Rattle.plan_sgs.specs.Laws.{SerialIsNoLater}
use Rattle.plan_sgs.proofs.ListLemmas.{told_by_entries}
use Rattle.plan_sgs.proofs.LawLemmas.{serial_no_later}
use Rattle.plan_sgs.proofs.laws.serial_is_no_later.Goals as goal

pub returns : goal.returns
unfolding SerialIsNoLater
returns c = λ p starts js inside fit feasible list. serial_no_later p starts js fit feasible (told_by_entries p js inside list)
