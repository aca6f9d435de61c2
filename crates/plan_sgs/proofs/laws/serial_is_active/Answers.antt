use Rattle.plan_sgs.specs.Laws.{SerialIsActive}
use Rattle.plan_sgs.proofs.SerialLemmas.{serial_active}
use Rattle.plan_sgs.proofs.ListLemmas.{told_by_entries}
use Rattle.plan_sgs.proofs.laws.serial_is_active.Goals as goal

pub returns : goal.returns
unfolding SerialIsActive
returns c = λ p js inside fit list. serial_active p js inside fit (told_by_entries p js inside list)
