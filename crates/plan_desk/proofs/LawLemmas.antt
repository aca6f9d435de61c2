-- The laws of stories, for all routes.
use Rattle.plan_desk.specs.Calls.{admits}
use Rattle.plan_desk.specs.Decisions.{Answers, IsDecision, IsRealStep, IsRun, AreTold, IsStoryOf, IsWanting}
use Rattle.plan_desk.specs.Laws.{OneDecision, OutsideIsUnseen, DesksAreApart, ToldIsStory, StoriesAreToldAlike}
use Rattle.plan_desk.proofs.StoryLemmas.{KeepsApart, decided_once, step_hidden, told, story_or_want, told_alike}
use Rattle.plan_desk.proofs.QuietLemmas.{quiet, frugal, nameless}
use Rattle.plan_desk.proofs.OneLemmas.{one_answer}

-- the routes keep the four facts
pub routes_keep_apart : KeepsApart Answers
routes_keep_apart = record {
  frugal = frugal;
  quiet = quiet;
  nameless = nameless;
  one = λ v call reply other c b h k. one_answer v call reply other c b h k;
}

pub one_decision : OneDecision
unfolding OneDecision IsDecision
one_decision = λ v r reply other c b h k. decided_once (admits v r) (Answers v r.call) (one_answer v r.call) reply other c b h k

pub outside_is_unseen : OutsideIsUnseen
unfolding OutsideIsUnseen IsRealStep
outside_is_unseen = λ desk w r reply after outside step. step_hidden routes_keep_apart desk w r reply after outside step

pub desks_are_apart : DesksAreApart
unfolding DesksAreApart IsRun AreTold
desks_are_apart = λ desk w requests replies worlds run. told routes_keep_apart desk w requests replies worlds run

pub told_is_story : ToldIsStory
unfolding ToldIsStory AreTold IsStoryOf IsWanting
told_is_story = λ desk v requests replies h. story_or_want routes_keep_apart desk v requests replies h

pub stories_are_told_alike : StoriesAreToldAlike
unfolding StoriesAreToldAlike IsStoryOf
stories_are_told_alike = λ desk v requests replies others answers story told given h k.
    told_alike routes_keep_apart desk v requests replies story told h others answers given k
