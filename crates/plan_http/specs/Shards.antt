-- One office on many servers (docs/definitions.md, "Many servers").
use Rattle.std.specs.Prelude.{◌≡◌, ◌⊎◌, ℕ, Bool, true, Option, List, [], ◌∷◌}
use Rattle.plan_rows.specs.World.{Text}
use Rattle.plan_rows.specs.Rules.{IsWorld}
use Rattle.plan_rows.specs.Views.{view, Agree}
use Rattle.plan_rows.specs.Books.{Shelf}
use Rattle.plan_desk.specs.Calls.{Request, subject, is_of_office}
use Rattle.plan_http.specs.declared.checks.Check.{Check}
use Rattle.plan_http.specs.Judges.{asks, fails, Judges}
use Rattle.plan_http.specs.Stories.{IsStoryOf}
use Rattle.plan_http.specs.Isolated.{IsApart}
use Rattle.plan_http.specs.Headline.{Alike}

-- the bytes spell no request, so any server may get them
pub record IsNobodys (bytes : Text) : Type 0 where
  pub check : Check
  pub allow : Option Text
  pub is_head : Bool
  pub spelled : Judges bytes (fails check allow is_head)

module _ (server_of : Text → ℕ) (server : ℕ) where
  -- The bytes spell a request for this server: a request of the office, which every server gets, or
  -- of a desk of this server.
  pub record IsFor (bytes : Text) : Type 0 where
    pub request : Request
    pub spelled : Judges bytes (asks request)
    pub sent : (is_of_office request.call ≡ true) ⊎ (server_of (subject request) ≡ server)

  -- The connections that a server gets, in their order: each that is for it, and any that spell no
  -- request.
  abbrev pub IsShare : List Text → List Text → Type 0
  IsShare [] share = share ≡ []
  IsShare (bytes ∷ conns) share =
      ((IsFor bytes → ⊥) × IsShare conns share)
      ⊎ ((IsFor bytes ⊎ IsNobodys bytes)
      × ((more : List Text) × (share ≡ bytes ∷ more) × IsShare conns more))

-- a run of one office that serves all connections, and a run of a server that serves its share
pub record AreOneOffice {A B : Type 0} (one : Shelf A) (other : Shelf B) (a : A) (b : B)
    (conns responses share answers : List Text) (desk : Text) : Type 0 where
  -- they are alike as any two runs
  pub alike : Alike one other a b conns responses share answers desk
  -- the desk's story on its server is its story in the one office, with the same responses, byte
  -- for byte
  pub same : (story told mine given : List Text)
      → IsStoryOf desk (view desk (one.world a)) conns responses story told
      → IsStoryOf desk (view desk (other.world b)) share answers mine given
      → (mine ≡ story) × (given ≡ told)

module _ {A B : Type 0} (one : Shelf A) (other : Shelf B) where
  -- For any assignment of desks to servers: a desk receives from its server the responses of one
  -- office that serves all connections. The server gets only its share.
  unfoldable pub ShardsAreOneOffice : Type 0
  ShardsAreOneOffice = (server_of : Text → ℕ) (a left : A) (b right : B)
      (conns responses share answers : List Text) (desk : Text)
      → IsShare server_of (server_of desk) conns share
      → IsApart one a left conns responses desk → IsApart other b right share answers desk
      → IsWorld (one.world a) → IsWorld (other.world b)
      → Agree (view desk (one.world a)) (view desk (other.world b))
      → AreOneOffice one other a b conns responses share answers desk
