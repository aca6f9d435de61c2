-- Cells of a table: in the text, in CSV and in JSON (docs/definitions.md, "Formats").
use Rattle.std.specs.Prelude.{ℕ, ℤ, Bool, true, false, if◌then◌else◌, List, [], ◌∷◌, ◌++◌, codes}
use Rattle.std.specs.Prelude.{decimal, pos, neg_ℤ}
use Rattle.std.specs.Str.Lossy.{utf8_lossy}
use Rattle.serde_json.specs.Data as data_of
use Rattle.serde_json.specs.Find.{of_integer}
use Rattle.jiff_fmt.specs.Text.{year_text, pad2}
use Rattle.plan_formats.specs.declared.cell.Cell as declared
use Rattle.plan_formats.specs.declared.cell.Cell.TheVariants as kept

pub data Cell : Type 0 where
  number : ℕ → Cell
  -- a number above 0, whose text has a sign
  above : ℕ → Cell
  -- a number below 0, without its sign
  below : ℕ → Cell
  text : List ℕ → Cell
  flag : Bool → Cell
  empty : Cell

-- a date, `2026-11-30`; 45 is the hyphen
abbrev pub day_text : ℤ → ℕ → ℕ → List ℕ
day_text year month day = year_text year ++ 45 ∷ [] ++ pad2 month ++ 45 ∷ [] ++ pad2 day

-- a cell, as the program keeps it; a date is its text
abbrev pub cell_of : declared.Cell → Cell
cell_of (kept.Number n) = number n
cell_of (kept.Above n) = above n
cell_of (kept.Below n) = below n
cell_of (kept.Day year month day) = text (day_text year month day)
cell_of (kept.Text t) = text t.now
cell_of (kept.Flag b) = flag b
cell_of kept.Empty = empty

-- a cell as a field of a CSV record: digits, the bytes of a text, `true` or `false`, nothing
abbrev pub field_of : Cell → List ℕ
field_of (number n) = decimal n
field_of (above n) = decimal n
field_of (below n) = codes "-" ++ decimal n
field_of (text t) = t
field_of (flag b) = if b then codes "true" else codes "false"
field_of empty = []

-- a cell as JSON. In a text each maximal part that isn't UTF-8 becomes U+FFFD
abbrev pub value_of : Cell → data_of.Data
value_of (number n) = data_of.number (data_of.unsigned n)
value_of (above n) = data_of.number (data_of.unsigned n)
value_of (below n) = data_of.number (of_integer (neg_ℤ (pos n)))
value_of (text t) = data_of.string (utf8_lossy t)
value_of (flag b) = data_of.boolean b
value_of empty = data_of.null

-- a cell in the text: a number above 0 has its sign, and an empty cell is `-`
abbrev pub text_of : Cell → List ℕ
text_of (number n) = decimal n
text_of (above n) = codes "+" ++ decimal n
text_of (below n) = codes "-" ++ decimal n
text_of (text t) = t
text_of (flag b) = if b then codes "true" else codes "false"
text_of empty = codes "-"

-- whether a cell is empty
abbrev pub is_empty : Cell → Bool
is_empty (number n) = false
is_empty (above n) = false
is_empty (below n) = false
is_empty (text t) = false
is_empty (flag b) = false
is_empty empty = true
