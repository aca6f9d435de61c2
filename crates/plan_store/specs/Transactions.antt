-- The statements of one transaction (docs/definitions.md, "Tables").
use Rattle.std.specs.Prelude.{◌≡◌, ℕ, true, List, [], ◌∷◌, Ok, IsTrue}
use Rattle.std.specs.Borrow.{Bor}
use Rattle.sqlite_value.specs.declared.value.ValueRef.{ValueRef}
use Rattle.sqlite_value.specs.Order.{Row}
use Rattle.sqlite_trees.specs.declared.store.Store.{Ghosts}
use Rattle.sqlite_trees.specs.Tree.{Trees}
use Rattle.sqlite.specs.Values.{bound}
use Rattle.sqlite.specs.Effect.{Database}
use Rattle.sqlite.specs.State.{Executes, HasCleanDisk}
use Rattle.sqlite.specs.Held.{Held, state}
use Rattle.sqlite_schema.specs.declared.command.Command.{Command}
use Rattle.sqlite.proofs.Callers.{command_of}
use Rattle.sqlite.specs.Listing.{understood}
use Rattle.plan_store.specs.Tables.{store_schema}
use Rattle.plan_rows.specs.World.{World}
use Rattle.plan_store.specs.Stores.{world_of, IsStore}

-- a text, and the values of its parameters
abbrev pub Statement : Type 0
Statement = List ℕ × Row

abbrev pub said : Bor (List ℕ) × Bor (List ValueRef) → Statement
said s = (s.0.now, bound s.1.now)

-- each statement ran on an open connection, one after another
abbrev pub RanAll : {S : Type 0} → Ghosts S → List Statement → Held S → Held S → Type 0
RanAll g [] old new = new ≡ old
RanAll {S} g (s ∷ more) old new =
    (mid : Held S) × (count : ℕ) × IsTrue (state g old).is_open
    × Executes s.0 s.1 (state g old) (state g mid) (Ok count) × RanAll g more mid new

-- a transaction of them leaves this database
abbrev pub LeavesAll : {S : Type 0} → Ghosts S → List Statement → Held S → Database → Type 0
LeavesAll {S} g statements old db =
    (last : Held S) × RanAll g statements (record old { in_transaction = true }) last
    × (db ≡ (state g last).now)

-- the trees that it leaves
abbrev pub MayMake : {S : Type 0} → Ghosts S → List Statement → Held S → Trees → Type 0
MayMake g statements old trees =
    (db : Database) × LeavesAll g statements old db × (trees ≡ db.trees)

-- A transaction of them makes this change of the office, on tables that hold one.
abbrev pub Makes : {S : Type 0} → Ghosts S → List Statement → Held S → (World → World) → Type 0
Makes g statements old change =
    HasCleanDisk (state g old) → (db : Database) → LeavesAll g statements old db
    → IsTrue (state g old).is_open × IsStore db
    × (world_of db.trees ≡ change (world_of (state g old).now.trees))

-- the meaning of a text under the schema of a store
abbrev pub meaning_of : List ℕ → Command
meaning_of text = command_of (understood store_schema text)
