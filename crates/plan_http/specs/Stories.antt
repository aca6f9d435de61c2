-- The part of a run of connections that belongs to one desk (docs/definitions.md, "Connections").
use Rattle.std.specs.Prelude.{◌≡◌, ◌⊎◌, Bool, true, false, List, [], ◌∷◌}
use Rattle.plan_rows.specs.World.{Text, World}
use Rattle.plan_rows.specs.Views.{View, view, alone}
use Rattle.plan_desk.specs.Calls.{Request, Reply}
use Rattle.plan_desk.specs.Stories.{belongs, IsWant}
use Rattle.plan_desk.specs.Decisions.{IsStep}
use Rattle.plan_http.specs.Judges.{Verdict, asks, fails, Judges}
use Rattle.plan_http.specs.Answers.{answered, starved}
use Rattle.plan_http.specs.Connections.{response_of}

-- a connection belongs to the desk's story if it spells a request of the story
abbrev pub belongs_to : Text → View → Verdict → Bool
belongs_to desk v (asks r) = belongs desk v r
belongs_to desk v (fails check allow is_head) = false

-- the response of a refusal for lack of memory or by the store
abbrev pub IsWantText : Text → Type 0
IsWantText response = (response ≡ response_of starved)
    ⊎ ((r : Request) × (reply : Reply) × IsWant reply × (response ≡ response_of (answered r reply)))

-- the bytes spell nothing that belongs to the desk
pub record IsOutside (desk : Text) (v : View) (bytes : Text) : Type 0 where
  pub verdict : Verdict
  pub spelled : Judges bytes verdict
  pub outside : belongs_to desk v verdict ≡ false

-- the bytes spell this request, which belongs to the desk
pub record IsInside (desk : Text) (v : View) (bytes : Text) (r : Request) : Type 0 where
  pub spelled : Judges bytes (asks r)
  pub inside : belongs desk v r ≡ true

-- the response of an office with the rows of the view and no others, and its rows after it
pub record IsAnswered (v : View) (r : Request) (response : Text) (after : World) : Type 0 where
  pub reply : Reply
  pub step : IsStep (alone v) r reply after
  pub told : response ≡ response_of (answered r reply)

-- A connection that doesn't belong to the desk is skipped. Any other gets the response of an office
-- that has the rows of the view and no others. Or it is refused for lack of memory or by the store,
-- and nothing more is claimed.
abbrev pub AreTold : Text → View → List Text → List Text → Type 0
AreTold desk v [] [] = Unit {0}
AreTold desk v (bytes ∷ conns) (response ∷ responses) =
    (IsOutside desk v bytes × AreTold desk v conns responses)
    ⊎ ((r : Request) × IsInside desk v bytes r × (IsWantText response
    ⊎ ((after : World) × IsAnswered v r response after
    × AreTold desk (view desk after) conns responses)))
AreTold desk v conns responses = ⊥

-- The connections that belong to a desk, and their responses. Each connection is in the view after
-- the earlier connections of the story. No response is a refusal for lack of memory or by the
-- store.
abbrev pub IsStoryOf : Text → View → List Text → List Text → List Text → List Text → Type 0
IsStoryOf desk v [] [] story told = (story ≡ []) × (told ≡ [])
IsStoryOf desk v (bytes ∷ conns) (response ∷ responses) story told =
    (IsOutside desk v bytes × IsStoryOf desk v conns responses story told)
    ⊎ ((r : Request) × IsInside desk v bytes r × ((more : List Text) × (others : List Text)
    × (story ≡ bytes ∷ more) × (told ≡ response ∷ others) × ((after : World)
    × IsAnswered v r response after
    × IsStoryOf desk (view desk after) conns responses more others)))
IsStoryOf desk v conns responses story told = ⊥

-- a connection of the desk's story was refused for lack of memory or by the store
abbrev pub IsWanting : Text → View → List Text → List Text → Type 0
IsWanting desk v (bytes ∷ conns) (response ∷ responses) =
    (IsOutside desk v bytes × IsWanting desk v conns responses)
    ⊎ ((r : Request) × IsInside desk v bytes r × (IsWantText response
    ⊎ ((after : World) × IsAnswered v r response after
    × IsWanting desk (view desk after) conns responses)))
IsWanting desk v conns responses = ⊥

-- two stories spell the same requests, in order: their header fields may differ in order and case
abbrev pub SpellTheSame : List Text → List Text → Type 0
SpellTheSame [] [] = Unit {0}
SpellTheSame (bytes ∷ story) (others ∷ tale) =
    ((r : Request) × Judges bytes (asks r) × Judges others (asks r)) × SpellTheSame story tale
SpellTheSame story tale = ⊥
