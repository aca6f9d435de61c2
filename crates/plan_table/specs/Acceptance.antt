-- The law of lists in which each unknown header has a capacity: they are read by their headers alone.
use Rattle.std.specs.Prelude.{◌≡◌, List, [], ◌∷◌, Ok}
use Rattle.plan_table.specs.Csv.{Row}
use Rattle.plan_table.specs.Header.{Head, heads_at, heads_checked}
use Rattle.plan_table.specs.Listing.{rows_under, table_in}
use Rattle.plan_table.specs.Overrides.{Override}
use Rattle.plan_table.specs.Table.{Table}

-- if the rows say a table under the columns as their headers alone say them, then the list says this
-- table
unfoldable pub KeepsLists : Type 0
KeepsLists = (overrides : List Override) (first : Row) (rows : List Row) (heads : List Head) (t : Table) →
    heads_at first.line [] first.cells ≡ Ok heads → heads_checked first.line heads ≡ Ok tt → rows_under overrides heads rows ≡ Ok t →
    table_in overrides (first ∷ rows) ≡ Ok t
