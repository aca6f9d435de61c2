-- The text of rows in the layout of their list (RFC 4180): its separator, quotes around the cells
-- that need them, and each row in its line. Behind each row is a carriage return, which is no line
-- feed, and a line feed ends the text.
use Rattle.std.specs.Prelude.{ℕ, ◌+◌, ◌<◌, ◌==◌, ◌||◌, Bool, if◌then◌else◌, List, [], ◌∷◌, ◌++◌}
use Rattle.std.specs.Prelude.{length, nat_eq, replicate}
use Rattle.std.specs.List.{list_any, starts_with}
use Rattle.plan_psplib.specs.Plain.{longest_text}
use Rattle.plan_table.specs.Csv.{Row, delimiter_of, header_line, without_mark}
use Rattle.plan_spreadsheet.specs.Rows.{Spells}
use Rattle.plan_spreadsheet.specs.Spelling.{gap, no_row, with_cell}
use Rattle.plan_list_back.specs.declared.fault.ListBackFault.{ListBackFault}
use Rattle.plan_list_back.specs.declared.fault.ListBackFault.TheVariants as faults

-- the separator of a list: the first of tab, semicolon and comma in its first line with content
abbrev pub separator_of : List ℕ → ℕ
separator_of text = delimiter_of (header_line (without_mark text))

-- a cell with this byte is written between quotes
abbrev pub needs_quotes : ℕ → ℕ → Bool
needs_quotes separator byte = byte == separator || byte == 34 || byte == 13 || byte == 10

abbrev pub is_quoted : ℕ → List ℕ → Bool
is_quoted separator cell = list_any (needs_quotes separator) cell

-- a text with a cell behind it
abbrev pub with_text : ℕ → List ℕ → List ℕ → List ℕ
with_text separator text cell = if is_quoted separator cell then with_cell text cell else text ++ cell

-- a text with a separator behind it, unless the next cell is the first one of its row
abbrev pub with_separator : ℕ → ℕ → List ℕ → List ℕ
with_separator separator k text = if k == 0 then text else text ++ separator ∷ []

-- a text with cells from cell k on behind it
unfoldable pub cells_from : ℕ → List ℕ → ℕ → List (List ℕ) → List ℕ
cells_from separator text k [] = text
cells_from separator text k (cell ∷ cells) =
    cells_from separator (with_text separator (with_separator separator k text) cell) (k + 1) cells

-- a text with a row behind it, in its line
abbrev pub with_row : ℕ → List ℕ → Row → Row → List ℕ
with_row separator text before row =
    cells_from separator (text ++ replicate (gap before row.line) 10) 0 row.cells ++ 13 ∷ []

-- a text with rows behind it, the first of them behind another row
unfoldable pub rows_from : ℕ → List ℕ → Row → List Row → List ℕ
rows_from separator text before [] = text
rows_from separator text before (row ∷ rows) =
    rows_from separator (with_row separator text before row) row rows

-- bytes begin with the byte-order mark of UTF-8 or of UTF-16
abbrev pub is_marked : List ℕ → Bool
is_marked bytes = starts_with nat_eq bytes (0xEF ∷ 0xBB ∷ 0xBF ∷ [])
    || starts_with nat_eq bytes (0xFF ∷ 0xFE ∷ []) || starts_with nat_eq bytes (0xFE ∷ 0xFF ∷ [])

-- the mark of the text for a file with these bytes
abbrev pub mark_of : List ℕ → List ℕ
mark_of bytes = if is_marked bytes then 0xEF ∷ 0xBB ∷ 0xBF ∷ [] else []

-- the text of rows for a file with these bytes, which is `text` in UTF-8
abbrev pub text_with : List ℕ → List ℕ → List Row → List ℕ
text_with bytes text rows =
    rows_from (separator_of text) (mark_of bytes) no_row rows ++ 10 ∷ []

-- why a text isn't that of rows: it is longer than the longest text that is read, or it is read as
-- other rows; out of memory may come at any time
abbrev pub IsUnwritten : List ℕ → List Row → ListBackFault → Type 0
IsUnwritten made rows faults.Memory = Unit {0}
IsUnwritten made rows faults.NoList = ⊥
IsUnwritten made rows faults.TooLong = longest_text < length made
IsUnwritten made rows faults.Changed = Spells made rows → ⊥
