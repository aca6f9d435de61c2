-- The rows of queries (docs/definitions.md, "Tables").
use Rattle.std.specs.Prelude.{◌≡◌, ℕ, pos, Bool, nat_lt, length, string_bytes, Option, Some, slice_get, List}
use Rattle.sqlite_value.specs.declared.value.Value.TheVariants.{Int, Text, Blob}
use Rattle.sqlite_value.specs.Order.{Row, column}
use Rattle.plan_rows.specs.declared.kinds.Kind.{Kind}
use Rattle.plan_rows.specs.declared.rows.DeskRow.{DeskRow}
use Rattle.plan_rows.specs.declared.rows.CodeRow.{CodeRow}
use Rattle.plan_rows.specs.declared.rows.BindEntry.{BindEntry}
use Rattle.plan_rows.specs.declared.rows.LagEntry.{LagEntry}
use Rattle.plan_store.specs.declared.query_rows.PlanPart.{PlanPart}
use Rattle.plan_rows.specs.Names.{kind_text, plan_kind_text}
use Rattle.plan_rows.specs.World.{Digest, Plan}
use Rattle.std.specs.List.{AllZip}
use Rattle.sqlite.specs.Effect.{Database, Reads}
use Rattle.plan_rows.specs.Books.{Matches}
use Rattle.plan_store.specs.Transactions.{meaning_of}
use Rattle.plan_store.specs.Rows.{digest_in}

-- the first row of an answer shows the digest of the office's key
abbrev pub ShowsOffice : List Row → Digest → Type 0
ShowsOffice rows digest =
    (row : Row) × (slice_get rows 0 ≡ Some row) × (digest_in (column row 0) ≡ digest)

pub record ShowsDesk (row : Row) (desk : DeskRow) : Type 0 where
  pub digest : digest_in (column row 0) ≡ desk.digest
  pub next : column row 1 ≡ Int (pos desk.next)

pub record ShowsCapacity (row : Row) (answer : Kind × ℕ) : Type 0 where
  pub kind : column row 0 ≡ Text (kind_text answer.0)
  pub capacity : column row 1 ≡ Int (pos answer.1)

pub record ShowsCode (row : Row) (entry : CodeRow) : Type 0 where
  pub code : column row 0 ≡ Text (string_bytes entry.code)
  pub kind : column row 1 ≡ Text (kind_text entry.kind)
  pub capacity : column row 2 ≡ Int (pos entry.capacity)

pub record ShowsBind (row : Row) (entry : BindEntry) : Type 0 where
  pub place : column row 0 ≡ Int (pos entry.place)
  pub code : column row 1 ≡ Text (string_bytes entry.code)

pub record ShowsLag (row : Row) (entry : LagEntry) : Type 0 where
  pub source : column row 0 ≡ Int (pos entry.from)
  pub target : column row 1 ≡ Int (pos entry.to)
  pub lag : column row 2 ≡ Int (pos entry.lag)

-- a plan without its binds and its lags
pub record ShowsPlan (row : Row) (plan : PlanPart) : Type 0 where
  pub kind : column row 0 ≡ Text (plan_kind_text plan.kind)
  pub name : column row 1 ≡ Text (string_bytes plan.name)
  pub body : column row 2 ≡ Blob plan.body.items
  pub start : column row 3 ≡ Text (string_bytes plan.start)
  pub days : column row 4 ≡ Text (string_bytes plan.days)

-- a plan of the office, read without its binds and lags
pub record IsPlanPart (row : Plan) (part : PlanPart) : Type 0 where
  pub kind : part.kind ≡ row.kind
  pub name : string_bytes part.name ≡ row.name
  pub body : part.body.items ≡ row.body
  pub start : string_bytes part.start ≡ row.start
  pub days : string_bytes part.days ≡ row.days

-- the values that are read from all rows of a query
abbrev pub ListsShown : {X : Type 0} → (Row → X → Type 0) → List ℕ → Database → Row → List X → Type 0
ListsShown shows text db params all =
    (rows : List Row) × Reads (meaning_of text) db params rows × AllZip shows rows all

-- the value that is read from its first row, if there is one
abbrev pub FirstShown : {X : Type 0} → (Row → X → Type 0) → List ℕ → Database → Row → Option X → Type 0
FirstShown shows text db params found =
    (rows : List Row) × Reads (meaning_of text) db params rows
    × Matches shows (slice_get rows 0) found

abbrev pub OfficeShown : List ℕ → Database → Row → Digest → Type 0
OfficeShown text db params digest =
    (rows : List Row) × Reads (meaning_of text) db params rows × ShowsOffice rows digest

abbrev pub AnyShown : List ℕ → Database → Row → Bool → Type 0
AnyShown text db params any =
    (rows : List Row) × Reads (meaning_of text) db params rows × (any ≡ nat_lt 0 (length rows))
