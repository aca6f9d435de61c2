-- The effect of a query on a connection with any tables (docs/definitions.md, "Tables").
use Rattle.std.specs.Prelude.{◌≡◌, false, List, ℕ, IsTrue, Result, IfOk}
use Rattle.sqlite_trees.specs.Tree.{Trees}
use Rattle.sqlite_schema.specs.declared.schema.Schema.{Schema}
use Rattle.sqlite_schema.specs.declared.command.Command.{Command}
use Rattle.sqlite.specs.Given.{IsPlain}
use Rattle.sqlite.specs.Listing.{understood, reads_listing}
use Rattle.sqlite.specs.State.{State, HasCleanDisk}
use Rattle.sqlite.proofs.Callers.{command_of}
use Rattle.plan_rows.specs.declared.fault.BookFault.{BookFault}
use Rattle.plan_store.specs.Endurance.{Endures}

-- the meaning of a text under a schema
abbrev pub meaning_under : Schema → List ℕ → Command
meaning_under schema text = command_of (understood schema text)

-- Under a schema a text is a statement that reads rows of its tables and writes nothing.
pub record IsQueryUnder (schema : Schema) (text : List ℕ) : Type 0 where
  pub plain : IsPlain (understood schema text)
  pub ours : reads_listing schema text ≡ false

-- It is outside a transaction, and everything is committed as long as it is open.
pub record IsAtRest (s : State) : Type 0 where
  pub outside : s.in_transaction ≡ false
  pub settled : HasCleanDisk s → IsTrue s.is_open → s.now ≡ s.committed

-- The tables don't change, and a crash leaves nothing that it couldn't leave before.
pub record Queries (old new : State) {X : Type 0} (result : Result X BookFault) (Is : X → Type 0) : Type 0 where
  pub rest : IsAtRest new
  pub honesty : HasCleanDisk new → HasCleanDisk old
  pub same : HasCleanDisk new → IsTrue new.is_open → IsTrue old.is_open × (new.now ≡ old.now)
  pub answer : IfOk result (λ x. HasCleanDisk new → IsTrue new.is_open × Is x)
  pub crash : HasCleanDisk new → (trees : Trees) → new.may_leave trees → old.may_leave trees
  pub endures : Endures old new
