-- The office in tables in SQL, and the tables of a store (docs/definitions.md, "Tables").
use Rattle.std.specs.Prelude.{◌≡◌, [], ◌∷◌, map}
use Rattle.sqlite_trees.specs.Tree.{Trees}
use Rattle.sqlite.specs.Effect.{Database, IsDatabase}
use Rattle.plan_rows.specs.World.{World}
use Rattle.plan_rows.specs.Rules.{IsWorld}
use Rattle.plan_store.specs.Tables.{store_schema}
use Rattle.plan_store.specs.TableRows.{Keeps}
use Rattle.plan_store.specs.Rows.{read_code, written_code, read_desk, written_desk, read_plan, written_plan, read_bind, written_bind, read_lag, written_lag, meta_row, office_in}

-- the rows of all tables, in the order of their rowids, which is the order of writing
abbrev pub world_of : Trees → World
world_of trees = record {
  office = office_in (trees 0);
  published = map read_code (trees 1);
  desks = map read_desk (trees 3);
  plans = map read_plan (trees 5);
  binds = map read_bind (trees 7);
  lags = map read_lag (trees 9);
}

-- each table holds rows that were written for an office
pub record HoldRows (trees : Trees) : Type 0 where
  pub meta : trees 0 ≡ meta_row (world_of trees).office ∷ []
  pub published : Keeps written_code read_code (trees 1)
  pub desks : Keeps written_desk read_desk (trees 3)
  pub plans : Keeps written_plan read_plan (trees 5)
  pub binds : Keeps written_bind read_bind (trees 7)
  pub lags : Keeps written_lag read_lag (trees 9)

-- the tables of a store hold an office that keeps the rules of rows
pub record IsStore (db : Database) : Type 0 where
  pub schema : db.schema ≡ store_schema
  pub rows : HoldRows db.trees
  pub rules : IsWorld (world_of db.trees)
  pub sound : IsDatabase db
