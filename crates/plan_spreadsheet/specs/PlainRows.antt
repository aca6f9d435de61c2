-- The plain list that a list from another program becomes, row by row.
use Rattle.std.specs.Prelude.{ℕ, List, [], ◌∷◌, map}
use Rattle.std.specs.Str.Lossy.{utf8_lossy}
use Rattle.plan_table.specs.Csv.{Row}
use Rattle.plan_table.specs.Overrides.{Override}
use Rattle.plan_spreadsheet.specs.Assignments.{with_assignments}
use Rattle.plan_spreadsheet.specs.Groups.{without_groups}
use Rattle.plan_spreadsheet.specs.Notes.{headers, notes}
use Rattle.plan_spreadsheet.specs.Rows.{emptied, filled}
use Rattle.plan_spreadsheet.specs.Waits.{with_waits}

-- the rows without the cells and the headers of notes; the first row is the header
abbrev pub without_notes : List Override → List Row → List Row
without_notes overrides [] = []
without_notes overrides (first ∷ rows) = map (emptied (notes overrides first rows)) (first ∷ rows)

-- the headers of the notes
abbrev pub ignored_in : List Override → List Row → List (List ℕ)
ignored_in overrides [] = []
ignored_in overrides (first ∷ rows) = map utf8_lossy (headers first (notes overrides first rows))

-- the rows without groups, and with columns in place of names of resources
abbrev pub rows_assigned : List Override → List Row → List Row
rows_assigned overrides rows = with_assignments overrides (without_groups overrides (filled rows))

-- the rows of the plain list
unfoldable pub plain_rows : List Override → List Row → List Row
plain_rows overrides rows =
    filled (with_waits overrides (without_notes overrides (rows_assigned overrides rows)))

-- the headers of the columns that the plain list doesn't have
unfoldable pub ignored_headers : List Override → List Row → List (List ℕ)
ignored_headers overrides rows = ignored_in overrides (rows_assigned overrides rows)
