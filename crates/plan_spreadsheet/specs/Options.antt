-- Options: new words for the headers of a list, columns that are left out, and the unit of
-- durations.
use Rattle.std.specs.Prelude.{ℕ, ◌+◌, ◌==◌, ◌&&◌, Bool, if◌then◌else◌, List, [], ◌∷◌, Option, Some, None, is_none, length, map, not}
use Rattle.std.specs.List.{list_any}
use Rattle.plan_psplib.specs.Lines.{trim}
use Rattle.plan_table.specs.Cells.{same_name}
use Rattle.plan_table.specs.Csv.{Row}
use Rattle.plan_table.specs.Overrides.{Override}
use Rattle.plan_spreadsheet.specs.declared.options.Options as declared
use Rattle.plan_spreadsheet.specs.declared.options.Rename as renaming
use Rattle.plan_spreadsheet.specs.Rows.{filled}
use Rattle.plan_spreadsheet.specs.Scaling.{scaled}
use Rattle.plan_spreadsheet.specs.Units.{decimal}

-- a header of the list, and the word that stands in its place
pub record Rename : Type 0 where
  pub header : List ℕ
  pub word : List ℕ

-- the same, as the program keeps it
abbrev pub rename_of : renaming.Rename → Rename
rename_of r = record { header = r.header.now; word = r.word.now }

-- new words for headers, the headers of columns that are left out, and a unit in thousandths of a
-- day
pub record Options : Type 0 where
  pub renames : List Rename
  pub ignored : List (List ℕ)
  pub unit : Option ℕ

-- the same, as the program keeps it
abbrev pub options_of : declared.Options → Options
options_of o = record {
  renames = map rename_of o.renames.now;
  ignored = map (λ name. name.now) o.ignored.now;
  unit = o.unit;
}

-- nothing is given
abbrev pub are_none : Options → Bool
are_none o = length o.renames == 0 && length o.ignored == 0 && is_none o.unit

-- a unit above 0
abbrev pub positive : Option ℕ → Option ℕ
positive None = None
positive (Some unit) = if unit == 0 then None else Some unit

-- the unit that a text gives, in thousandths of a day
abbrev pub unit_in : List ℕ → Option ℕ
unit_in text = positive (decimal 3 text)

-- ---- the header

-- a cell of the header is this header, without regard to ASCII case and blanks at its ends
abbrev pub is_header : List ℕ → List ℕ → Bool
is_header name cell = same_name name (trim cell)

-- a header by its new word
abbrev pub renamed : List Rename → List ℕ → List ℕ
renamed [] cell = cell
renamed (r ∷ renames) cell = if is_header r.header cell then r.word else renamed renames cell

-- one of some headers is that of a cell
abbrev pub is_left_out : List (List ℕ) → List ℕ → Bool
is_left_out ignored cell = list_any (λ name. is_header name cell) ignored

-- a header as it is read; that of a column that is left out is empty
abbrev pub header_cell : Options → List ℕ → List ℕ
header_cell o cell = if is_left_out o.ignored cell then [] else renamed o.renames cell

abbrev pub header_row : Options → Row → Row
header_row o row = record { line = row.line; cells = map (header_cell o) row.cells }

-- ---- headers that the list doesn't have

abbrev pub is_missing : List (List ℕ) → List ℕ → Bool
is_missing cells name = not (list_any (is_header name) cells)

-- the first header to rename that no column has, if the first one that is left has the number k
unfoldable pub missing_rename : List (List ℕ) → ℕ → List Rename → Option ℕ
missing_rename cells k [] = None
missing_rename cells k (r ∷ renames) =
    if is_missing cells r.header then Some k else missing_rename cells (k + 1) renames

-- the first header to leave out that no column has, if the first one that is left has the number k
unfoldable pub missing_ignored : List (List ℕ) → ℕ → List (List ℕ) → Option ℕ
missing_ignored cells k [] = None
missing_ignored cells k (name ∷ ignored) =
    if is_missing cells name then Some k else missing_ignored cells (k + 1) ignored

-- the cells of the header
abbrev pub header_cells : List Row → List (List ℕ)
header_cells [] = []
header_cells (first ∷ rows) = first.cells

-- ---- the list

abbrev pub in_unit : Option ℕ → List Override → Row → List Row → List Row
in_unit None overrides first rows = rows
in_unit (Some unit) overrides first rows =
    if unit == 0 then rows else scaled unit overrides first rows

abbrev pub prepared_under : Options → List Override → Row → List Row → List Row
prepared_under o overrides first rows = filled (first ∷ in_unit o.unit overrides first rows)

-- rows with content as the options say; the first one is the header, unless all its columns are
-- left out
abbrev pub prepared : Options → List Override → List Row → List Row
prepared o overrides [] = []
prepared o overrides (first ∷ rows) = prepared_under o overrides (header_row o first) rows
