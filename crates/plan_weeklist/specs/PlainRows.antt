-- The plain list of a list with dates: its rows without dates and absences.
use Rattle.std.specs.Prelude.{ℕ, ◌+◌, ◌&&◌, ◌||◌, Bool, if◌then◌else◌, List, [], ◌∷◌, ◌++◌, not}
use Rattle.std.specs.List.{list_any}
use Rattle.plan_table.specs.Csv.{Row}
use Rattle.plan_weeklist.specs.declared.columns.Columns.{Columns}
use Rattle.plan_weeklist.specs.Columns.{has_dates, is_absence, is_undated}

-- a list has no dates: no column has dates, and no row is an absence
abbrev pub has_no_dates : Columns → List Row → Bool
has_no_dates columns rows = is_undated columns && not (list_any (is_absence columns.ids) rows)

-- the cell in column k of the plain list: that of a date or of an absence is empty
abbrev pub plain_cell : Columns → Bool → ℕ → List ℕ → List ℕ
plain_cell columns absent k cell = if absent || has_dates columns k then [] else cell

-- the cells of a row from column k on, behind others
unfoldable pub plain_cells : Columns → Bool → List (List ℕ) → ℕ → List (List ℕ) → List (List ℕ)
plain_cells columns absent before k [] = before
plain_cells columns absent before k (cell ∷ cells) =
    plain_cells columns absent (before ++ plain_cell columns absent k cell ∷ []) (k + 1) cells

-- a row of the plain list, in the same line
abbrev pub plain_row : Columns → Row → Row
plain_row columns row = record { line = row.line; cells = plain_cells columns (is_absence columns.ids row) [] 0 row.cells }
