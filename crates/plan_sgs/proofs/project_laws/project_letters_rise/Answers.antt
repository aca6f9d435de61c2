-- The letters rise.
use Rattle.plan_sgs.proofs.FullWordLemmas.{letters_rise, letters_are_activities}
use Rattle.plan_sgs.proofs.project_laws.project_letters_rise.Goals as goal

pub returns-clause-rising : goal.returns-clause-rising
returns-clause-rising c = letters_rise

pub returns-clause-activities : goal.returns-clause-activities
returns-clause-activities c = letters_are_activities
