-- The layouts of an office's tables, and the office in them (docs/definitions.md, "Tables").
use Rattle.std.specs.Prelude.{◌≡◌, ℕ, ◌+◌, ℤ, true, List, [], ◌∷◌, IsTrue, IsUtf8}
use Rattle.std.specs.Borrow.{Bor}
use Rattle.std.specs.List.{AllByRecursion}
use Rattle.sqlite_value.specs.declared.value.Value.TheVariants.{Null, Int}
use Rattle.sqlite_value.specs.Keys.{plain}
use Rattle.sqlite_value.specs.Order.{Row}
use Rattle.sqlite_trees.specs.Tree.{Trees, rowid, IsTable}
use Rattle.sqlite_trees.specs.View.{is_int}
use Rattle.sqlite_schema.specs.declared.schema.Kind.{Kind}
use Rattle.sqlite_schema.specs.declared.schema.Column.{Column}
use Rattle.sqlite_schema.specs.declared.schema.Index.{Index}
use Rattle.sqlite_schema.specs.declared.schema.Schema.{Schema}
use Rattle.sqlite.specs.Effect.{Database, IsDatabase}
use Rattle.plan_rows.specs.World.{Digest, Plan, World}
use Rattle.plan_rows.specs.Rules.{IsWorld}
use Rattle.plan_store.specs.declared.layout.Layout.{Layout}
use Rattle.plan_store.specs.declared.layout.Layout.TheVariants.{First, Second}
use Rattle.plan_store.specs.Tables.{filled, first_schema, store_schema}
use Rattle.plan_store.specs.TableRows.{Keeps}
use Rattle.plan_store.specs.Rows.{read_code, written_code, read_desk, written_desk, read_plan, written_plan, read_bind, written_bind, read_lag, written_lag, number_value, digest_value}
use Rattle.plan_store.specs.Stores.{world_of}

-- a column by its name and kind
abbrev pub filled_of : Bor (List ℕ) × Kind → Column
filled_of c = filled c.0.now c.1

-- the index of a key, by its name and the tree of its table
abbrev pub key_index_named : List ℕ → ℕ → List ℕ → Index
key_index_named name tree places = record {
  name = name;
  tree = tree + 1;
  table = tree;
  columns = places;
  order = plain;
  is_unique = true;
}

abbrev pub schema_of : Layout → Schema
schema_of First = first_schema
schema_of Second = store_schema

-- the office in such tables
abbrev pub world_in : Layout → Trees → World
world_in First trees = record (world_of trees) { lags = [] }
world_in Second trees = world_of trees

abbrev pub KeepsLags : Layout → Trees → Type 0
KeepsLags First trees = Unit {0}
KeepsLags Second trees = Keeps written_lag read_lag (trees 9)

-- the one row of the first table: a version of the tables, and the digest of the office's key
abbrev pub meta_at : ℤ → Digest → Row
meta_at version office = number_value 1 ∷ Null ∷ Int version ∷ digest_value office ∷ []

-- Tables of this layout hold an office and have this version. Texts are UTF-8.
pub record IsOfficeAt (layout : Layout) (version : ℤ) (db : Database) : Type 0 where
  pub schema : db.schema ≡ schema_of layout
  pub meta : db.trees 0 ≡ meta_at version (world_of db.trees).office ∷ []
  pub published : Keeps written_code read_code (db.trees 1)
  pub desks : Keeps written_desk read_desk (db.trees 3)
  pub plans : Keeps written_plan read_plan (db.trees 5)
  pub binds : Keeps written_bind read_bind (db.trees 7)
  pub lags : KeepsLags layout db.trees
  pub names : AllByRecursion (λ (row : Plan). IsUtf8 row.name) (world_of db.trees).plans
  pub rules : IsWorld (world_in layout db.trees)
  pub sound : IsDatabase db

-- the rowids of a table are integers and rise
abbrev pub AreNumbered : List Row → Type 0
AreNumbered rows = IsTable rows × AllByRecursion (λ row. IsTrue (is_int (rowid row))) rows

abbrev pub AreInOrder : Database → Type 0
AreInOrder db = AllByRecursion (λ table. AreNumbered (db.trees table.tree)) db.schema.tables
