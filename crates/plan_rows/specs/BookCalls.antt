-- The calls of a book as its trait states them (docs/definitions.md, "Books").
use Rattle.std.specs.Prelude.{Result}
use Rattle.plan_rows.specs.declared.fault.BookFault.{BookFault}
use Rattle.plan_rows.specs.World.{World}
use Rattle.plan_rows.specs.Rules.{IsWorld}
use Rattle.plan_rows.specs.Books.{Shelf, Reads}

module _ {B : Type 0} (shelf : Shelf B) (old : B) where
  -- the office in tables that can be seen meets a condition
  abbrev pub Needs : (World → Type 0) → Type 0
  Needs Is = shelf.honest old → shelf.stands old → Is (shelf.world old)

  -- the changed office keeps the rules of rows
  abbrev pub KeepsRules : (World → World) → Type 0
  KeepsRules change = shelf.honest old → shelf.stands old → IsWorld (change (shelf.world old))

  -- the result is read from the office
  abbrev pub Answers : {X : Type 0} → B → Result X BookFault → (World → X → Type 0) → Type 0
  Answers new result Is = Reads shelf old new result (Is (shelf.world old))
