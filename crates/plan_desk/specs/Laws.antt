-- Laws of the office (docs/definitions.md, "Desks").
use Rattle.std.specs.Prelude.{◌≡◌, ◌⊎◌, false, List}
use Rattle.plan_rows.specs.World.{Text, World}
use Rattle.plan_rows.specs.Changes.{Change}
use Rattle.plan_rows.specs.Views.{View, view, alone, Agree}
use Rattle.plan_desk.specs.Calls.{Request, Reply}
use Rattle.plan_desk.specs.Stories.{belongs}
use Rattle.plan_desk.specs.Decisions.{IsDecision, IsStep, IsRealStep, IsRun, AreTold, IsStoryOf, IsWanting}
use Rattle.plan_rows.specs.Rules.{IsWorld}

-- for a view and a request there is at most one reply and one change
unfoldable pub OneDecision : Type 0
OneDecision = (v : View) (r : Request) (reply other : Reply) (c b : Change)
    → IsDecision v r reply c → IsDecision v r other b → (reply ≡ other) × (c ≡ b)

-- a step keeps the rules of rows
unfoldable pub StepsKeepRules : Type 0
StepsKeepRules = (w : World) (r : Request) (reply : Reply) (after : World)
    → IsWorld w → IsStep w r reply after → IsWorld after

-- the rows of one desk alone keep the rules of rows
unfoldable pub AloneKeepsRules : Type 0
AloneKeepsRules = (desk : Text) (w : World) → IsWorld w → IsWorld (alone (view desk w))

-- a request that doesn't belong to a desk doesn't change what the desk sees
unfoldable pub OutsideIsUnseen : Type 0
OutsideIsUnseen = (desk : Text) (w : World) (r : Request) (reply : Reply) (after : World)
    → belongs desk (view desk w) r ≡ false → IsRealStep w r reply after
    → view desk after ≡ view desk w

-- in every run, each desk receives the replies that its requests receive in an office that has the
-- rows of its view and no others
unfoldable pub DesksAreApart : Type 0
DesksAreApart = (desk : Text) (w : World)
    (requests : List Request) (replies : List Reply) (worlds : List World)
    → IsRun w requests replies worlds → AreTold desk (view desk w) requests replies

-- the replies to a desk belong to a story, unless one of them is a refusal for lack of memory or by
-- the store
unfoldable pub ToldIsStory : Type 0
ToldIsStory = (desk : Text) (v : View) (requests : List Request) (replies : List Reply)
    → AreTold desk v requests replies
    → ((story : List Request) × (told : List Reply) × IsStoryOf desk v requests replies story told)
    ⊎ IsWanting desk v requests replies

-- equal stories in one view receive equal replies, whatever other requests come before or between
unfoldable pub StoriesAreToldAlike : Type 0
StoriesAreToldAlike = (desk : Text) (v : View) (requests : List Request) (replies : List Reply)
    (others : List Request) (answers : List Reply) (story : List Request) (told given : List Reply)
    → IsStoryOf desk v requests replies story told → IsStoryOf desk v others answers story given
    → told ≡ given

-- the order in which rows were written makes no difference to a decision
unfoldable pub OrderIsUnseen : Type 0
OrderIsUnseen = (v u : View) (r : Request) (reply : Reply) (c : Change)
    → IsWorld (alone v) → IsWorld (alone u) → Agree v u
    → IsDecision v r reply c → IsDecision u r reply c

-- equal stories in views that agree receive equal replies
unfoldable pub AgreeingViewsAreToldAlike : Type 0
AgreeingViewsAreToldAlike = (desk : Text) (v u : View) (requests : List Request) (replies : List Reply)
    (others : List Request) (answers : List Reply) (story : List Request) (told given : List Reply)
    → IsWorld (alone v) → IsWorld (alone u) → Agree v u
    → IsStoryOf desk v requests replies story told → IsStoryOf desk u others answers story given
    → told ≡ given
