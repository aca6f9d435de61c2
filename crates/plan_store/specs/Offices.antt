-- A database with the tables of an office and any rows (docs/definitions.md, "Tables").
use Rattle.std.specs.Prelude.{◌≡◌}
use Rattle.sqlite_schema.specs.declared.schema.Schema.{Schema}
use Rattle.plan_store.specs.declared.layout.Layout.{Layout}
use Rattle.plan_store.specs.Layouts.{schema_of}

-- the tables, indexes and views are those of a layout and no others
abbrev pub HasOfficeTables : Schema → Type 0
HasOfficeTables schema = (layout : Layout) × (schema ≡ schema_of layout)
