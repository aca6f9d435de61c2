-- The meaning of each statement that creates a store.
use Rattle.std.proofs.Common.{◌≡◌, ℕ, pos, List, [], ◌∷◌, codes, false, Ok, refl}
use Rattle.sqlite_value.specs.declared.value.Value.TheVariants.{Null, Int}
use Rattle.sqlite_sql.specs.Term.{Term, lit, col}
use Rattle.sqlite_schema.specs.declared.command.Command.TheVariants.{CreateTable, Insert}
use Rattle.sqlite_schema.specs.declared.command.Source.TheVariants.{Values}
use Rattle.sqlite_schema.specs.declared.schema.Schema.{Schema}
use Rattle.sqlite_schema.specs.declared.schema.Table.{Table}
use Rattle.sqlite_resolve.specs.Compile.{table_defined_by}
use Rattle.sqlite_catalog.specs.Change.{created}
use Rattle.sqlite.specs.Does.{lacks_sequence}
use Rattle.sqlite.specs.Listing.{understood}
use Rattle.sqlite.proofs.Callers.{IsPlain, command_of, statement_of}
use Rattle.sqlite_tied.specs.Compute.{everything}
use Rattle.plan_store.specs.Tables.{no_schema, meta, published, desks, plans, binds, lags, key_index, store_schema}

-- the schema that a statement finds, as the ones before it leave it
abbrev pub with_meta : Schema
with_meta = record { tables = meta ∷ []; indexes = []; views = [] }

abbrev pub with_published : Schema
with_published = record { tables = meta ∷ published ∷ []; indexes = key_index published (1 ∷ []) ∷ []; views = [] }

abbrev pub with_desks : Schema
with_desks = record { tables = meta ∷ published ∷ desks ∷ []; indexes = key_index published (1 ∷ []) ∷ key_index desks (1 ∷ []) ∷ []; views = [] }

abbrev pub with_plans : Schema
with_plans = record {
  tables = meta ∷ published ∷ desks ∷ plans ∷ [];
  indexes = key_index published (1 ∷ []) ∷ key_index desks (1 ∷ []) ∷ key_index plans (1 ∷ 2 ∷ []) ∷ [];
  views = [];
}

abbrev pub with_binds : Schema
with_binds = record {
  tables = meta ∷ published ∷ desks ∷ plans ∷ binds ∷ [];
  indexes = key_index published (1 ∷ []) ∷ key_index desks (1 ∷ []) ∷ key_index plans (1 ∷ 2 ∷ []) ∷ key_index binds (1 ∷ 2 ∷ 3 ∷ []) ∷ [];
  views = [];
}

-- A text makes this table, and leaves this schema.
pub record IsCreation (text : List ℕ) (before after : Schema) (table : Table) : Type 0 where
  pub command : command_of (understood before text) ≡ CreateTable
  pub whole : statement_of text (understood before text) ≡ text
  pub defined : table_defined_by text ≡ Ok table
  pub leaves : created before table ≡ after
  pub plain : IsPlain (understood before text)
  pub uncounted : lacks_sequence after ≡ false

abbrev pub create_meta : List ℕ
create_meta = codes "CREATE TABLE meta (id INTEGER NOT NULL PRIMARY KEY, version INTEGER NOT NULL, office TEXT NOT NULL) STRICT"

pub creates_meta : IsCreation create_meta no_schema with_meta (meta)
unfolding understood everything
creates_meta = record { command = refl; whole = refl; defined = refl; leaves = refl; plain = (refl, refl); uncounted = refl }

abbrev pub create_published : List ℕ
create_published = codes "CREATE TABLE published (code TEXT NOT NULL, kind TEXT NOT NULL, capacity INTEGER NOT NULL, PRIMARY KEY (code)) STRICT"

pub creates_published : IsCreation create_published with_meta with_published (record published { tree = 0 })
unfolding understood everything
creates_published = record { command = refl; whole = refl; defined = refl; leaves = refl; plain = (refl, refl); uncounted = refl }

abbrev pub create_desks : List ℕ
create_desks = codes "CREATE TABLE desks (desk TEXT NOT NULL, digest TEXT NOT NULL, next INTEGER NOT NULL, PRIMARY KEY (desk)) STRICT"

pub creates_desks : IsCreation create_desks with_published with_desks (record desks { tree = 0 })
unfolding understood everything
creates_desks = record { command = refl; whole = refl; defined = refl; leaves = refl; plain = (refl, refl); uncounted = refl }

abbrev pub create_plans : List ℕ
create_plans = codes "CREATE TABLE plans (desk TEXT NOT NULL, n INTEGER NOT NULL, kind TEXT NOT NULL, name TEXT NOT NULL, body BLOB NOT NULL, start TEXT NOT NULL, days TEXT NOT NULL, PRIMARY KEY (desk, n)) STRICT"

pub creates_plans : IsCreation create_plans with_desks with_plans (record plans { tree = 0 })
unfolding understood everything
creates_plans = record { command = refl; whole = refl; defined = refl; leaves = refl; plain = (refl, refl); uncounted = refl }

abbrev pub create_binds : List ℕ
create_binds = codes "CREATE TABLE binds (desk TEXT NOT NULL, n INTEGER NOT NULL, place INTEGER NOT NULL, code TEXT NOT NULL, PRIMARY KEY (desk, n, place)) STRICT"

pub creates_binds : IsCreation create_binds with_plans with_binds (record binds { tree = 0 })
unfolding understood everything
creates_binds = record { command = refl; whole = refl; defined = refl; leaves = refl; plain = (refl, refl); uncounted = refl }

abbrev pub create_lags : List ℕ
create_lags = codes "CREATE TABLE lags (desk TEXT NOT NULL, n INTEGER NOT NULL, src INTEGER NOT NULL, dst INTEGER NOT NULL, lag INTEGER NOT NULL, PRIMARY KEY (desk, n, src, dst)) STRICT"

pub creates_lags : IsCreation create_lags with_binds store_schema (record lags { tree = 0 })
unfolding understood everything
creates_lags = record { command = refl; whole = refl; defined = refl; leaves = refl; plain = (refl, refl); uncounted = refl }

abbrev pub fill_meta : List ℕ
fill_meta = codes "INSERT INTO meta (id, version, office) VALUES (1, 2, ?1)"

abbrev pub fill_terms : List Term
fill_terms = lit (Int (pos 1)) ∷ lit Null ∷ lit (Int (pos 2)) ∷ col 0 0 ∷ []

pub fill_is : command_of (understood store_schema fill_meta) ≡ Insert 0 (Values fill_terms 4)
unfolding understood everything
fill_is = refl

pub fill_plain : IsPlain (understood store_schema fill_meta)
unfolding understood everything
fill_plain = (refl, refl)
