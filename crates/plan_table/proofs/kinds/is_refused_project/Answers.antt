use Rattle.plan_table.proofs.KindLemmas.{no_project}
use Rattle.plan_table.proofs.kinds.is_refused_project.Goals as goal

pub returns-in_default : goal.returns-in_default
returns-in_default c = no_project c.args.text.now c.args.fault.now c.requires c.in_default.not-Memory
