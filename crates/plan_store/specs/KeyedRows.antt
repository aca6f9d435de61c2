-- The rows of the queries that list all rows by key.
use Rattle.std.specs.Prelude.{◌≡◌, pos, string_bytes}
use Rattle.sqlite_value.specs.declared.value.Value.TheVariants.{Int, Text}
use Rattle.sqlite_value.specs.Order.{Row, column}
use Rattle.plan_rows.specs.declared.keyed_rows.PlanKey.{PlanKey}
use Rattle.plan_rows.specs.declared.tables.records.DeskRecord.{DeskRecord}
use Rattle.plan_rows.specs.declared.tables.records.BindRecord.{BindRecord}
use Rattle.plan_rows.specs.declared.tables.records.LagRecord.{LagRecord}
use Rattle.plan_store.specs.Rows.{digest_in}

pub record ShowsDeskRecord (row : Row) (entry : DeskRecord) : Type 0 where
  pub desk : column row 0 ≡ Text (string_bytes entry.desk)
  pub digest : digest_in (column row 1) ≡ entry.digest
  pub next : column row 2 ≡ Int (pos entry.next)

pub record ShowsPlanKey (row : Row) (entry : PlanKey) : Type 0 where
  pub desk : column row 0 ≡ Text (string_bytes entry.desk)
  pub n : column row 1 ≡ Int (pos entry.n)

pub record ShowsBindRecord (row : Row) (entry : BindRecord) : Type 0 where
  pub desk : column row 0 ≡ Text (string_bytes entry.desk)
  pub n : column row 1 ≡ Int (pos entry.n)
  pub place : column row 2 ≡ Int (pos entry.place)
  pub code : column row 3 ≡ Text (string_bytes entry.code)

pub record ShowsLagRecord (row : Row) (entry : LagRecord) : Type 0 where
  pub desk : column row 0 ≡ Text (string_bytes entry.desk)
  pub n : column row 1 ≡ Int (pos entry.n)
  pub source : column row 2 ≡ Int (pos entry.from)
  pub target : column row 3 ≡ Int (pos entry.to)
  pub lag : column row 4 ≡ Int (pos entry.lag)
