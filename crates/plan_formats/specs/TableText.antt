-- The text of a table (docs/definitions.md, "Formats").
use Rattle.std.specs.Prelude.{ℕ, ◌-◌, Bool, if◌then◌else◌, List, [], ◌∷◌, ◌++◌}
use Rattle.std.specs.Prelude.{map, fold, max, replicate, codes}
use Rattle.std.specs.List.{flat_map, list_any, zip}
use Rattle.plan_formats.specs.Cells.{Cell, text, empty, is_empty}
use Rattle.plan_formats.specs.Cells as cells
use Rattle.plan_formats.specs.Columns.{Column, characters, is_label, is_line, placed, placed_heading}
use Rattle.plan_formats.specs.TableLines.{lines_text}
use Rattle.plan_formats.specs.Tables.{Table}
use Rattle.plan_formats.specs.declared.plain_text.TextRow as declared

-- a row of the text: its characters, and its label, which is an empty cell if it has none
pub record TextRow : Type 0 where
  pub base : List ℕ
  pub label : Cell

-- a row of the text, as the program keeps it
abbrev pub text_row_of : declared.TextRow → TextRow
text_row_of r = record { base = r.base.items; label = cells.cell_of r.label }

-- the characters of a row
abbrev pub base_of : List Column → List Cell → List ℕ
base_of columns row = flat_map (λ pair. placed pair.0.layout pair.1) (zip columns row)

-- a label, or in its place the cell of a column with labels
abbrev pub label_after : Cell → Column → Cell → Cell
label_after found c cell = if is_label c.layout then cell else found

-- a label, or in its place the last cell of a column with labels
abbrev pub label_from : Cell → List Column → List Cell → Cell
label_from found columns row =
    fold (λ label pair. label_after label pair.0 pair.1) found (zip columns row)

-- the label of a row
abbrev pub label_of : List Column → List Cell → Cell
label_of columns row = label_from empty columns row

-- a row of cells in the text
abbrev pub row_of : List Column → List Cell → TextRow
row_of columns row = record { base = base_of columns row; label = label_of columns row }

-- the characters of the line of headings
abbrev pub heading_base : List Column → List ℕ
heading_base columns = flat_map (λ c. placed_heading c.layout c.heading) columns

-- the heading of the last column with labels
abbrev pub heading_label : List Column → Cell
heading_label columns = fold (λ label c. label_after label c (text c.heading)) empty columns

-- the line of headings
abbrev pub heading_row : List Column → TextRow
heading_row columns = record { base = heading_base columns; label = heading_label columns }

-- whether the cells of some column are whole lines
abbrev pub has_lines : List Column → Bool
has_lines columns = list_any (λ c. is_line c.layout) columns

-- the line of headings, if the table has one
abbrev pub headings : List Column → List TextRow
headings columns = if has_lines columns then [] else heading_row columns ∷ []

-- the rows of the text
abbrev pub text_rows : List Column → List (List Cell) → List TextRow
text_rows columns rows = headings columns ++ map (row_of columns) rows

-- the characters of a row that has a label, 0 for another row
abbrev pub labelled_length : TextRow → ℕ
labelled_length row = if is_empty row.label then 0 else characters row.base

-- the characters of the longest row that has a label
abbrev pub label_place : List TextRow → ℕ
label_place rows = fold (λ most row. max most (labelled_length row)) 0 rows

-- the blanks up to the place of the labels, one more blank, and the label
abbrev pub label_text : ℕ → TextRow → List ℕ
label_text place row = if is_empty row.label then []
    else replicate (place - characters row.base) 32 ++ codes " " ++ cells.text_of row.label

-- the line of a row
abbrev pub row_line : ℕ → TextRow → List ℕ
row_line place row = row.base ++ label_text place row ++ codes "\n"

-- the lines of rows, whose labels begin at one place
abbrev pub rows_text : List TextRow → List ℕ
rows_text rows = flat_map (row_line (label_place rows)) rows

-- the text of a table
abbrev pub text_of : Table → List ℕ
text_of t = lines_text t.above ++ rows_text (text_rows t.columns t.rows) ++ lines_text t.below
