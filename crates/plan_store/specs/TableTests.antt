-- A connection while its tables are tested (docs/definitions.md, "Tables").
use Rattle.std.specs.Prelude.{◌≡◌, ℤ, false, List, [], ◌∷◌, map, Option, IsSome, IsTrue, Result, IfOk, MatchOption}
use Rattle.sqlite_trees.specs.Tree.{Trees}
use Rattle.sqlite_trees.specs.declared.store.Store.{Ghosts}
use Rattle.sqlite.specs.Effect.{Database}
use Rattle.sqlite.specs.State.{State, HasCleanDisk}
use Rattle.sqlite.specs.Held.{Held, state}
use Rattle.plan_rows.specs.declared.fault.BookFault.{BookFault}
use Rattle.plan_rows.specs.Books.{published_in}
use Rattle.plan_rows.specs.Tables.{desk_kept, bind_kept, lag_kept}
use Rattle.plan_rows.specs.World.{Plan, World}
use Rattle.plan_store.specs.declared.untrusted_tables.OtherRows.{OtherRows}
use Rattle.plan_store.specs.declared.kept_plans.KeptPlans.{KeptPlans}
use Rattle.plan_store.specs.declared.layout.Layout.{Layout}
use Rattle.plan_store.specs.Endurance.{Endures}
use Rattle.plan_store.specs.TableRows.{Keeps}
use Rattle.plan_store.specs.Rows.{read_code, written_code, read_desk, written_desk, read_bind, written_bind}
use Rattle.plan_store.specs.Stores.{world_of}
use Rattle.plan_store.specs.KeptPlans.{HoldsPlans}
use Rattle.plan_store.specs.Layouts.{schema_of, meta_at, world_in, KeepsLags, IsOfficeAt}
use Rattle.plan_store.specs.Reload.{IsInOrder}

-- a reloaded connection with the tables of this layout
pub record IsLaid (layout : Layout) (s : State) : Type 0 where
  pub in_order : IsInOrder s
  pub schema : s.now.schema ≡ schema_of layout

-- It is outside a transaction, and it has tables of this layout as long as it is open.
pub record IsReadable (layout : Layout) (s : State) : Type 0 where
  pub outside : s.in_transaction ≡ false
  pub laid : HasCleanDisk s → IsTrue s.is_open → IsLaid layout s

-- The tables don't change, and a crash leaves nothing that it couldn't leave before.
pub record Looks (layout : Layout) (old new : State) {X : Type 0} (result : Result X BookFault) (Is : X → Type 0) : Type 0 where
  pub ready : IsReadable layout new
  pub honesty : HasCleanDisk new → HasCleanDisk old
  pub same : HasCleanDisk new → IsTrue new.is_open → IsTrue old.is_open × (new.now ≡ old.now)
  pub answer : IfOk result (λ x. HasCleanDisk new → IsTrue new.is_open × Is x)
  pub crash : HasCleanDisk new → (trees : Trees) → new.may_leave trees → old.may_leave trees
  pub endures : Endures old new

-- the rows of all tables, with these plans
abbrev pub world_others : OtherRows → List Plan → World
world_others it plans = record {
  office = it.office;
  published = map published_in it.published.items;
  desks = map desk_kept it.desks.items;
  plans = plans;
  binds = map bind_kept it.binds.items;
  lags = map lag_kept it.lags.items;
}

-- The rows of the tables except the plans are those of an office, which may break the rules of
-- rows. These are its version and its rows.
pub record HoldsOthers (layout : Layout) (db : Database) (it : OtherRows) : Type 0 where
  pub meta : db.trees 0 ≡ meta_at it.version it.office ∷ []
  pub published : Keeps written_code read_code (db.trees 1)
  pub desks : Keeps written_desk read_desk (db.trees 3)
  pub binds : Keeps written_bind read_bind (db.trees 7)
  pub lags : KeepsLags layout db.trees
  pub world : world_others it (world_in layout db.trees).plans ≡ world_in layout db.trees

-- the version and the rows of the tables except the plans, or none if no office has such rows
abbrev pub TakesOthers : Layout → Database → Option OtherRows → Type 0
TakesOthers layout db found =
    MatchOption found ((version : ℤ) → ¬ IsOfficeAt layout version db) (HoldsOthers layout db)

-- the plans of the tables with these rows, or none if they hold no office
abbrev pub IsJudged : Layout → Database → OtherRows → Option KeptPlans → Type 0
IsJudged layout db it found =
    MatchOption found ((version : ℤ) → ¬ IsOfficeAt layout version db)
    (λ kept. IsOfficeAt layout it.version db × HoldsPlans (world_of db.trees).plans kept)

-- the version of the tables, or none if they hold no office
abbrev pub SaysVersion : Layout → Database → Option ℤ → Type 0
SaysVersion layout db said =
    MatchOption said ((version : ℤ) → ¬ IsOfficeAt layout version db) (λ version. IsOfficeAt layout version db)

-- the same, and the plans of the office
pub record SaysOffice (layout : Layout) (db : Database) (it : Option ℤ × KeptPlans) : Type 0 where
  pub version : SaysVersion layout db it.0
  pub plans : IsSome it.0 → HoldsPlans (world_of db.trees).plans it.1

-- the same facts about the connections that functions take
module _ {S : Type 0} (g : Ghosts S) (layout : Layout) where
  abbrev pub CanRead : Held S → Type 0
  CanRead conn = IsReadable layout (state g conn)

  -- the result is read from tables of this layout
  abbrev pub Inspects : {X : Type 0} → Held S → Held S → Result X BookFault
      → (Database → X → Type 0) → Type 0
  Inspects old new result Is =
      Looks layout (state g old) (state g new) result (Is (state g old).now)
