-- The bound of a word holds.
use Rattle.plan_sgs.proofs.WordBoundLemmas.{bound_holds}
use Rattle.plan_sgs.proofs.project_laws.project_bounds_hold.Goals as goal

pub returns : goal.returns
returns c = bound_holds
