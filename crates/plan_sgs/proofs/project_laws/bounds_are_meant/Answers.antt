-- Tails and work have their defined meanings.
use Rattle.plan_sgs.proofs.PathTailLemmas.{tails_are_greatest, longest_is_greatest}
use Rattle.plan_sgs.proofs.WorkLemmas.{rounds_up}
use Rattle.plan_sgs.proofs.project_laws.bounds_are_meant.Goals as goal

pub returns-clause-tails : goal.returns-clause-tails
returns-clause-tails c = tails_are_greatest

pub returns-clause-longest : goal.returns-clause-longest
returns-clause-longest c = longest_is_greatest

pub returns-clause-work : goal.returns-clause-work
returns-clause-work c = rounds_up
