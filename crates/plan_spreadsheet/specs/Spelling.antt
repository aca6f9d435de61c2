-- The text of rows: cells between quotes, a tab between two of them, and each row in its line.
-- Behind each row is a carriage return, which is no line feed.
use Rattle.std.specs.Prelude.{◌≡◌, ◌≤◌, ◌<◌, ℕ, ◌+◌, ◌-◌, ◌==◌, true, if◌then◌else◌, List, [], ◌∷◌, ◌++◌, length, replicate, count_by}
use Rattle.std.specs.List.{list_all, sum_by}
use Rattle.std.specs.Str.{is_utf8}
use Rattle.plan_psplib.specs.Lines.{is_line_feed}
use Rattle.plan_psplib.specs.Plain.{longest_text}
use Rattle.plan_table.specs.Csv.{Row}
use Rattle.plan_spreadsheet.specs.Rows.{is_filled}

-- ---- cells

-- a byte between quotes: a quote is doubled
abbrev pub quoted_byte : ℕ → List ℕ
quoted_byte byte = if byte == 34 then 34 ∷ 34 ∷ [] else byte ∷ []

-- the bytes of a cell between quotes, behind a text
unfoldable pub quoted_from : List ℕ → List ℕ → List ℕ
quoted_from text [] = text
quoted_from text (byte ∷ cell) = quoted_from (text ++ quoted_byte byte) cell

-- a text with a cell behind it
abbrev pub with_cell : List ℕ → List ℕ → List ℕ
with_cell text cell = quoted_from (text ++ 34 ∷ []) cell ++ 34 ∷ []

-- a text with a tab behind it, unless the next cell is the first one of its row
abbrev pub with_tab : ℕ → List ℕ → List ℕ
with_tab k text = if k == 0 then text else text ++ 9 ∷ []

-- a text with cells from cell k on behind it
unfoldable pub cells_from : List ℕ → ℕ → List (List ℕ) → List ℕ
cells_from text k [] = text
cells_from text k (cell ∷ cells) = cells_from (with_cell (with_tab k text) cell) (k + 1) cells

-- ---- lines

-- the line feeds in a cell
abbrev pub feeds_in : List ℕ → ℕ
feeds_in cell = count_by is_line_feed cell

-- the line feeds in cells
abbrev pub feeds : List (List ℕ) → ℕ
feeds cells = sum_by feeds_in cells

-- the line in which a row ends
abbrev pub end_line : Row → ℕ
end_line row = row.line + feeds row.cells

-- the line feeds between a row and the line of the next one
abbrev pub gap : Row → ℕ → ℕ
gap before line = (line - before.line) - feeds before.cells

-- ---- rows

-- a text with a row behind it, in its line
abbrev pub with_row : List ℕ → Row → Row → List ℕ
with_row text before row =
    cells_from (text ++ replicate (gap before row.line) 10) 0 row.cells ++ 13 ∷ []

-- a text with rows behind it, the first of them behind another row
unfoldable pub rows_from : List ℕ → Row → List Row → List ℕ
rows_from text before [] = text
rows_from text before (row ∷ rows) = rows_from (with_row text before row) row rows

-- the start of the first line: a row without content. Its tab is the separator of the text.
abbrev pub start_mark : List ℕ
start_mark = 34 ∷ 34 ∷ 9 ∷ 13 ∷ []

-- the row before all others
abbrev pub no_row : Row
no_row = record { line = 1; cells = [] }

-- the text of rows
abbrev pub spelling : List Row → List ℕ
spelling rows = rows_from start_mark no_row rows

-- ---- rows that a text can have

-- each row begins in the line in which the one before it ends, or in a later one
abbrev pub AreInOrder : Row → List Row → Type 0
AreInOrder before [] = Unit {0}
AreInOrder before (row ∷ rows) = (end_line before ≤ row.line) × AreInOrder row rows

-- rows are in order and have content, and their text is UTF-8
pub record AreWritable (rows : List Row) : Type 0 where
  pub in_order : AreInOrder no_row rows
  pub full : list_all is_filled rows ≡ true
  pub utf8 : is_utf8 (spelling rows) ≡ true

-- the text of rows is longer than the longest one that is read
abbrev pub IsTooLong : List Row → Type 0
IsTooLong rows = AreWritable rows → longest_text < length (spelling rows)
