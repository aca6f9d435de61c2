-- The rows of an untrusted database (docs/definitions.md, "Tables").
use Rattle.std.specs.Prelude.{◌≡◌, ◌⊎◌, ℕ, ◌<◌, ◌^◌, ℤ, true, List, [], ◌∷◌, map, option_map, Option, Some, None, IsUtf8, Contains, Vec}
use Rattle.std.specs.List.{AllByRecursion, AllZip}
use Rattle.std.specs.declared.alloc.Global.{Global}
use Rattle.sqlite_value.specs.declared.value.Value.TheVariants.{Int}
use Rattle.sqlite_value.specs.Order.{Row}
use Rattle.sqlite_trees.specs.Tree.{Trees}
use Rattle.sqlite.specs.Effect.{Database, Reads}
use Rattle.plan_rows.specs.declared.rows.CodeRow.{CodeRow}
use Rattle.plan_rows.specs.declared.tables.records.DeskRecord.{DeskRecord}
use Rattle.plan_rows.specs.declared.tables.records.BindRecord.{BindRecord}
use Rattle.plan_rows.specs.declared.tables.records.LagRecord.{LagRecord}
use Rattle.plan_rows.specs.Books.{published_in}
use Rattle.plan_rows.specs.Tables.{desk_kept, bind_kept, lag_kept}
use Rattle.plan_rows.specs.World.{Digest, Published, Desk, Plan, Bind, Lag}
use Rattle.plan_rows.specs.Names.{is_digest}
use Rattle.plan_store.specs.declared.layout.Layout.{Layout}
use Rattle.plan_store.specs.declared.layout.Layout.TheVariants.{First, Second}
use Rattle.plan_store.specs.TableRows.{Keeps}
use Rattle.plan_store.specs.Rows.{number_value, digest_value, written_code, read_code, written_desk, read_desk, written_bind, read_bind, written_lag, read_lag}
use Rattle.plan_store.specs.QueryEffect.{meaning_under}
use Rattle.plan_store.specs.Layouts.{schema_of, meta_at}

-- Code can hold a row if its texts are UTF-8, its digest has 32 bytes, and its numbers fit.
abbrev pub HoldsCode : Published → Type 0
HoldsCode row = IsUtf8 row.code

abbrev pub HoldsDesk : Desk → Type 0
HoldsDesk row = IsUtf8 row.desk × (is_digest row.digest ≡ true)

abbrev pub HoldsPlan : Plan → Type 0
HoldsPlan row = IsUtf8 row.desk × IsUtf8 row.name × IsUtf8 row.start × IsUtf8 row.days

abbrev pub HoldsBind : Bind → Type 0
HoldsBind row = IsUtf8 row.desk × IsUtf8 row.code

abbrev pub HoldsLag : Lag → Type 0
HoldsLag row = IsUtf8 row.desk × (row.source < 2 ^ 32) × (row.target < 2 ^ 32)

-- the version of the tables and the digest of the office's key, and the row that shows them
abbrev pub Meta : Type 0
Meta = ℤ × Digest

abbrev pub shown_meta : Meta → Row
shown_meta meta = number_value 1 ∷ Int meta.0 ∷ digest_value meta.1 ∷ []

abbrev pub HoldsMeta : Meta → Type 0
HoldsMeta meta = is_digest meta.1 ≡ true

-- A row shows this value, which code can hold, or no value that code can hold.
abbrev pub TakesRow : {A : Type 0} → (A → Row) → (A → Type 0) → Row → Option A → Type 0
TakesRow written Holds row (Some a) = (row ≡ written a) × Holds a
TakesRow {A} written Holds row None = (a : A) → Holds a → row ≡ written a → ⊥

-- each row shows a value, or one row shows none
abbrev pub TakesAll : {X : Type 0} → (Row → Option X → Type 0) → List Row → Option (List X) → Type 0
TakesAll takes rows (Some all) = AllZip (λ row x. takes row (Some x)) rows all
TakesAll takes rows None = (row : Row) × Contains rows row × takes row None

-- the values of the rows that a query reads from tables of this layout
abbrev pub ListsTaken : {X : Type 0} → (Row → Option X → Type 0) → Layout → List ℕ → Database → Option (Vec X Global) → Type 0
ListsTaken takes layout text db found =
    (rows : List Row) × Reads (meaning_under (schema_of layout) text) db [] rows
    × TakesAll takes rows (option_map (λ v. v.items) found)

-- A table holds these rows, which code can hold, or no rows that code can hold.
abbrev pub TakesTable : {A : Type 0} → (A → Row) → (Row → A) → (A → Type 0) → List Row → Option (List A) → Type 0
TakesTable written read Holds rows (Some all) =
    Keeps written read rows × (all ≡ map read rows) × AllByRecursion Holds all
TakesTable written read Holds rows None =
    Keeps written read rows → AllByRecursion Holds (map read rows) → ⊥

-- The first table has only this row, or no such row.
abbrev pub TakesMeta : List Row → Option Meta → Type 0
TakesMeta rows (Some meta) = (rows ≡ meta_at meta.0 meta.1 ∷ []) × HoldsMeta meta
TakesMeta rows None =
    (version : ℤ) (office : Digest) → is_digest office ≡ true → rows ≡ meta_at version office ∷ [] → ⊥

-- two values, or one of them is missing
abbrev pub TakesBoth : {X Y : Type 0} → (Option X → Type 0) → (Option Y → Type 0) → Option (X × Y) → Type 0
TakesBoth P Q (Some both) = P (Some both.0) × Q (Some both.1)
TakesBoth P Q None = P None ⊎ Q None

-- the rows that code read, as rows of an office
abbrev pub taken_as : {X A : Type 0} → (X → A) → Option (Vec X Global) → Option (List A)
taken_as kept found = option_map (map kept) (option_map (λ v. v.items) found)

-- the only element of a list, if there is exactly one
abbrev pub only_one : {X : Type 0} → List X → Option X
only_one (x ∷ []) = Some x
only_one _ = None

-- the rows that are read from each table
abbrev pub TakesCodes : Trees → Option (Vec CodeRow Global) → Type 0
TakesCodes trees found =
    TakesTable written_code read_code HoldsCode (trees 1) (taken_as published_in found)

abbrev pub TakesDesks : Trees → Option (Vec DeskRecord Global) → Type 0
TakesDesks trees found =
    TakesTable written_desk read_desk HoldsDesk (trees 3) (taken_as desk_kept found)

abbrev pub TakesBinds : Trees → Option (Vec BindRecord Global) → Type 0
TakesBinds trees found =
    TakesTable written_bind read_bind HoldsBind (trees 7) (taken_as bind_kept found)

-- tables of the first layout have no lags
abbrev pub TakesLags : Layout → Trees → Option (Vec LagRecord Global) → Type 0
TakesLags First trees found = taken_as lag_kept found ≡ Some []
TakesLags Second trees found =
    TakesTable written_lag read_lag HoldsLag (trees 9) (taken_as lag_kept found)
