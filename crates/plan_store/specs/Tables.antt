-- The tables of a store in SQL (docs/definitions.md, "Tables").
use Rattle.std.specs.Prelude.{ℕ, ◌+◌, true, false, List, [], ◌∷◌, ◌++◌, Some, None, codes}
use Rattle.sqlite_value.specs.declared.value.Value.TheVariants.{Null}
use Rattle.sqlite_value.specs.declared.keys.Collation.TheVariants.{Binary}
use Rattle.sqlite_value.specs.Keys.{plain}
use Rattle.sqlite_schema.specs.declared.schema.Kind.{Kind}
use Rattle.sqlite_schema.specs.declared.schema.Kind.TheVariants.{Integer, Text, Blob}
use Rattle.sqlite_schema.specs.declared.schema.Column.{Column}
use Rattle.sqlite_schema.specs.declared.schema.Table.{Table}
use Rattle.sqlite_schema.specs.declared.schema.Index.{Index}
use Rattle.sqlite_schema.specs.declared.schema.Schema.{Schema}

-- a database with nothing in it
abbrev pub no_schema : Schema
no_schema = record { tables = []; indexes = []; views = [] }

-- a column that holds a value of its type, never NULL
abbrev pub filled : List ℕ → Kind → Column
filled name kind = record {
  name = name;
  kind = kind;
  is_strict = true;
  not_null = true;
  default = Null;
  collation = Binary;
}

-- a table whose key is the columns at these places, where place 0 is the rowid
abbrev pub keyed_table : List ℕ → ℕ → List ℕ → List Column → Table
keyed_table name tree places columns = record {
  name = name;
  tree = tree;
  columns = columns;
  key = None;
  primary = places;
  uniques = places ∷ [];
  orders = plain ∷ [];
  checks = [];
  references = [];
  computed = [];
  stamps = record { places = []; terms = []; formats = [] };
  is_counted = false;
}

-- the index of that key, whose tree follows the table's
abbrev pub key_index : Table → List ℕ → Index
key_index table places = record {
  name = codes "sqlite_autoindex_" ++ (table.name ++ codes "_1");
  tree = table.tree + 1;
  table = table.tree;
  columns = places;
  order = plain;
  is_unique = true;
}

-- the version of the tables and the digest of the office's key, in one row
abbrev pub meta : Table
meta = record {
  name = codes "meta";
  tree = 0;
  columns =
      filled (codes "id") Integer ∷ filled (codes "version") Integer
      ∷ filled (codes "office") Text ∷ [];
  key = Some 0;
  primary = 0 ∷ [];
  uniques = [];
  orders = [];
  checks = [];
  references = [];
  computed = [];
  stamps = record { places = []; terms = []; formats = [] };
  is_counted = false;
}

abbrev pub published : Table
published = keyed_table (codes "published") 1 (1 ∷ [])
    (filled (codes "code") Text ∷ filled (codes "kind") Text
    ∷ filled (codes "capacity") Integer ∷ [])

abbrev pub desks : Table
desks = keyed_table (codes "desks") 3 (1 ∷ [])
    (filled (codes "desk") Text ∷ filled (codes "digest") Text
    ∷ filled (codes "next") Integer ∷ [])

abbrev pub plans : Table
plans = keyed_table (codes "plans") 5 (1 ∷ 2 ∷ [])
    (filled (codes "desk") Text ∷ filled (codes "n") Integer ∷ filled (codes "kind") Text
    ∷ filled (codes "name") Text ∷ filled (codes "body") Blob ∷ filled (codes "start") Text
    ∷ filled (codes "days") Text ∷ [])

abbrev pub binds : Table
binds = keyed_table (codes "binds") 7 (1 ∷ 2 ∷ 3 ∷ [])
    (filled (codes "desk") Text ∷ filled (codes "n") Integer ∷ filled (codes "place") Integer
    ∷ filled (codes "code") Text ∷ [])

abbrev pub lags : Table
lags = keyed_table (codes "lags") 9 (1 ∷ 2 ∷ 3 ∷ 4 ∷ [])
    (filled (codes "desk") Text ∷ filled (codes "n") Integer ∷ filled (codes "src") Integer
    ∷ filled (codes "dst") Integer ∷ filled (codes "lag") Integer ∷ [])

-- the tables of the first version, which had no lags
abbrev pub first_schema : Schema
first_schema = record {
  tables = meta ∷ published ∷ desks ∷ plans ∷ binds ∷ [];
  indexes =
      key_index published (1 ∷ []) ∷ key_index desks (1 ∷ []) ∷ key_index plans (1 ∷ 2 ∷ [])
      ∷ key_index binds (1 ∷ 2 ∷ 3 ∷ []) ∷ [];
  views = [];
}

-- the tables of a store, which are of the second version: those of the first and the lags
abbrev pub store_schema : Schema
store_schema = record {
  tables = first_schema.tables ++ lags ∷ [];
  indexes = first_schema.indexes ++ key_index lags (1 ∷ 2 ∷ 3 ∷ 4 ∷ []) ∷ [];
  views = [];
}
