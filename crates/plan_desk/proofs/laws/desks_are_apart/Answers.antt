use Rattle.plan_desk.proofs.LawLemmas.{desks_are_apart, told_is_story, stories_are_told_alike}
use Rattle.plan_desk.proofs.laws.desks_are_apart.Goals as goal

pub returns-clause-apart : goal.returns-clause-apart
returns-clause-apart c = desks_are_apart

pub returns-clause-story : goal.returns-clause-story
returns-clause-story c = told_is_story

pub returns-clause-alike : goal.returns-clause-alike
returns-clause-alike c = stories_are_told_alike
