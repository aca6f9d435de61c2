-- Laws of connections (docs/definitions.md, "Connections").
use Rattle.std.specs.Prelude.{◌≡◌, List}
use Rattle.plan_rows.specs.World.{Text, World}
use Rattle.plan_rows.specs.Views.{view}
use Rattle.plan_rows.specs.Books.{Shelf}
use Rattle.plan_desk.specs.Decisions.{IsRun, AreTold}
use Rattle.plan_http.specs.Answers.{Decision, requests_of, replies_of}
use Rattle.plan_http.specs.Connections.{Serving}
use Rattle.plan_http.specs.Judges.{Verdict, Judges}

-- bytes have at most one verdict
unfoldable pub OneVerdict : Type 0
OneVerdict = (bytes : Text) (x y : Verdict) → Judges bytes x → Judges bytes y → x ≡ y

-- the bytes have a verdict
abbrev pub SpellsSomething : Text → Type 0
SpellsSomething bytes = (verdict : Verdict) × Judges bytes verdict

module _ {B : Type 0} (shelf : Shelf B) where
  -- the requests that were handled on connections are a run of the office, if its tables are
  -- readable
  unfoldable pub ServingIsRun : Type 0
  ServingIsRun = (old new : B) (conns : List Text) (decisions : List Decision)
      → Serving shelf old conns decisions new
      → shelf.honest new → shelf.stands new
      → (worlds : List World)
      × IsRun (shelf.world old) (requests_of decisions) (replies_of decisions) worlds

  -- each desk receives on these connections the replies of an office that has its rows and no
  -- others
  unfoldable pub ServedDesksAreApart : Type 0
  ServedDesksAreApart = (old new : B) (conns : List Text) (decisions : List Decision)
      → Serving shelf old conns decisions new
      → shelf.honest new → shelf.stands new → (desk : Text)
      → AreTold desk (view desk (shelf.world old)) (requests_of decisions) (replies_of decisions)
