-- Rows of a list, and the text that spells them.
use Rattle.std.specs.Prelude.{◌≡◌, ℕ, ◌+◌, ◌==◌, ◌&&◌, Bool, true, false, if◌then◌else◌, List, [], ◌∷◌, ◌++◌, Ok, filter, not}
use Rattle.std.specs.List.{list_any}
use Rattle.std.specs.Str.{bytes_eq}
use Rattle.plan_table.specs.Csv.{Row}
use Rattle.plan_table.specs.Entries.{is_blank_row}
use Rattle.plan_table.specs.Listing.{rows_read}

-- a row has a cell with content
abbrev pub is_filled : Row → Bool
is_filled row = not (is_blank_row row.cells)

-- the rows with content
abbrev pub filled : List Row → List Row
filled rows = filter is_filled rows

-- a text is read as these rows, and perhaps rows without content
abbrev pub Spells : List ℕ → List Row → Type 0
Spells text rows = (found : List Row) × (rows_read text ≡ Ok found) × (filled found ≡ rows)

-- rows with one more, if it has content
abbrev pub with_filled : List Row → Row → List Row
with_filled rows row = if is_blank_row row.cells then rows else rows ++ row ∷ []

-- two rows have the same cells
unfoldable pub same_cells : List (List ℕ) → List (List ℕ) → Bool
same_cells [] [] = true
same_cells [] (other ∷ others) = false
same_cells (cell ∷ cells) [] = false
same_cells (cell ∷ cells) (other ∷ others) = bytes_eq cell other && same_cells cells others

-- two rows are the same
abbrev pub same_row : Row → Row → Bool
same_row row other = row.line == other.line && same_cells row.cells other.cells

unfoldable pub same_rows : List Row → List Row → Bool
same_rows [] [] = true
same_rows [] (other ∷ others) = false
same_rows (row ∷ rows) [] = false
same_rows (row ∷ rows) (other ∷ others) = same_row row other && same_rows rows others

-- column k is one of some
abbrev pub is_among : List ℕ → ℕ → Bool
is_among places k = list_any (λ place. place == k) places

-- a cell, or an empty one in its place
abbrev pub cell_or_empty : Bool → List ℕ → List ℕ
cell_or_empty empty cell = if empty then [] else cell

-- the cells of a row from column k on, behind others; those of some columns are empty
unfoldable pub emptied_from : List ℕ → List (List ℕ) → ℕ → List (List ℕ) → List (List ℕ)
emptied_from places before k [] = before
emptied_from places before k (cell ∷ cells) =
    emptied_from places (before ++ cell_or_empty (is_among places k) cell ∷ []) (k + 1) cells

-- a row with empty cells in some columns
abbrev pub emptied : List ℕ → Row → Row
emptied places row = record { line = row.line; cells = emptied_from places [] 0 row.cells }
