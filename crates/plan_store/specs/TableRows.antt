-- A table in SQL that holds a list of rows (docs/definitions.md, "Tables").
use Rattle.std.specs.Prelude.{◌≡◌, ℤ, List, ◌∷◌, map}
use Rattle.std.specs.List.{AllByRecursion}
use Rattle.sqlite_value.specs.declared.value.Value.TheVariants.{Int}
use Rattle.sqlite_value.specs.Order.{Row}
use Rattle.sqlite_keyed.specs.Keyed.{IsKeyedBy}

-- a row with its rowid
abbrev pub row_at : {A : Type 0} → (A → Row) → ℤ × A → Row
row_at written entry = Int entry.0 ∷ written entry.1

-- Each row was written with some rowid, the rowids rise, and each row reads as it was written.
pub record Keeps {A : Type 0} (written : A → Row) (read : Row → A) (rows : List Row) : Type 0 where
  pub entries : List (ℤ × A)
  pub are : rows ≡ map (row_at written) entries
  pub rise : IsKeyedBy (λ entry. entry.0) entries
  pub back : AllByRecursion (λ entry. read (row_at written entry) ≡ entry.1) entries
