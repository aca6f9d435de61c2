-- One desk in a run of connections (docs/definitions.md, "Connections").
use Rattle.std.specs.Prelude.{◌≡◌, ◌⊎◌, ◌+◌, ◌≤◌, List, [], ◌∷◌, length, take, map}
use Rattle.plan_rows.specs.World.{Text, World}
use Rattle.plan_rows.specs.Views.{View, view, alone}
use Rattle.plan_desk.specs.Calls.{Request, Reply, subject}
use Rattle.plan_desk.specs.Decisions.{IsStep}
use Rattle.plan_desk.specs.Promises.{IsPromised}
use Rattle.plan_rows.specs.Books.{Shelf}
use Rattle.plan_http.specs.Judges.{asks, Judges}
use Rattle.plan_http.specs.Answers.{Decision, answered, IsOn}
use Rattle.plan_http.specs.Connections.{Moves, response_of}
use Rattle.plan_http.specs.Stories.{IsOutside, IsStoryOf, IsWanting}

-- The responses to connections in an office with these rows, each by a step, one after another.
-- Each page shows what it promises: dates, a schedule by the named rule, a best schedule.
abbrev pub ArePromised : World → List Text → List Text → Type 0
ArePromised w [] [] = Unit {0}
ArePromised w (bytes ∷ conns) (response ∷ responses) =
    (r : Request) × (reply : Reply) × (after : World)
    × Judges bytes (asks r) × IsStep w r reply after
    × (response ≡ response_of (answered r reply))
    × (reply.status ≡ 200 → IsPromised (view (subject r) w) r.call reply.body)
    × ArePromised after conns responses
ArePromised w conns responses = ⊥

-- The story of a desk in a run receives the responses of an office with the rows of the view and no
-- others, and each page shows what it promises. Or a connection of it was refused for lack of
-- memory or by the store.
abbrev pub IsToldAlone : Text → View → List Text → List Text → Type 0
IsToldAlone desk v conns responses =
    ((story : List Text) × (told : List Text) × IsStoryOf desk v conns responses story told
    × ArePromised (alone v) story told)
    ⊎ IsWanting desk v conns responses

module _ {B : Type 0} (shelf : Shelf B) where
  -- connections are served one after another, and the connections that don't belong to the desk
  -- change nothing that it sees
  abbrev pub ServingUnseen : Text → B → List Text → List Decision → B → Type 0
  ServingUnseen desk old [] [] new = new ≡ old
  ServingUnseen desk old (bytes ∷ conns) (d ∷ decisions) new =
      (middle : B) × IsOn bytes d × Moves shelf old middle d
      × (shelf.stands middle → IsOutside desk (view desk (shelf.world old)) bytes
      → view desk (shelf.world middle) ≡ view desk (shelf.world old))
      × ServingUnseen desk middle conns decisions new
  ServingUnseen desk old conns decisions new = ⊥

  -- A desk in a complete or stopped run. The responses are those of the decisions, or of all but
  -- the last.
  pub record IsApart (old new : B) (conns responses : List Text) (desk : Text) : Type 0 where
    pub told : IsToldAlone desk (view desk (shelf.world old))
        (take (length responses) conns) responses
    pub decisions : List Decision
    pub unseen : ServingUnseen desk old (take (length decisions) conns) decisions new
    pub written : responses ≡ map response_of (take (length responses) decisions)
    pub last : length decisions ≤ length responses + 1
