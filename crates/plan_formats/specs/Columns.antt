-- Columns of a table, and their places in the text (docs/definitions.md, "Formats").
use Rattle.std.specs.Prelude.{ℕ, ◌-◌, Bool, true, false, not, leb, ltb, ◌&&◌, if◌then◌else◌}
use Rattle.std.specs.Prelude.{List, [], ◌∷◌, ◌++◌, length, count_by, replicate, codes}
use Rattle.plan_formats.specs.Cells.{Cell, number, above, below, text, flag, empty, text_of}
use Rattle.plan_formats.specs.declared.column.Column as declared
use Rattle.plan_formats.specs.declared.column.Layout.{Layout}
use Rattle.plan_formats.specs.declared.column.Layout.TheVariants as layout

-- a column: its heading in the text, in CSV and in JSON, its word in JSON, and its place in the
-- text
pub record Column : Type 0 where
  pub heading : List ℕ
  pub word : List ℕ
  pub layout : Layout

-- a column, as the program keeps it
abbrev pub column_of : declared.Column → Column
column_of c = record { heading = c.heading.now; word = c.word.now; layout = c.layout }

-- a text aligned right in a number of characters; a longer text isn't cut
abbrev pub column : ℕ → List ℕ → List ℕ
column places word = replicate (places - length word) 32 ++ word

-- whether a byte begins a character: in UTF-8 those behind the first one are from 128 to 191
abbrev pub begins : ℕ → Bool
begins byte = not (leb 128 byte && ltb byte 192)

-- the number of characters of a text
abbrev pub characters : List ℕ → ℕ
characters bytes = count_by begins bytes

-- a text behind a blank, aligned right in a number of characters; a longer text isn't cut
abbrev pub words_column : ℕ → List ℕ → List ℕ
words_column places words = 32 ∷ replicate (places - characters words) 32 ++ words

-- the column has the names behind the rows
abbrev pub is_label : Layout → Bool
is_label (layout.Right places) = false
is_label layout.Mark = false
is_label layout.WideMark = false
is_label layout.Label = true
is_label layout.Line = false
is_label (layout.Words places) = false
is_label layout.Member = false

-- the column is a whole line
abbrev pub is_line : Layout → Bool
is_line (layout.Right places) = false
is_line layout.Mark = false
is_line layout.WideMark = false
is_line layout.Label = false
is_line layout.Line = true
is_line (layout.Words places) = false
is_line layout.Member = false

-- the mark of a row whose cell is the flag `true`
abbrev pub mark_of : Cell → List ℕ
mark_of (number n) = []
mark_of (above n) = []
mark_of (below n) = []
mark_of (text t) = []
mark_of (flag b) = if b then codes " *" else []
mark_of empty = []

-- the same, or two blanks
abbrev pub wide_mark_of : Cell → List ℕ
wide_mark_of (number n) = codes "  "
wide_mark_of (above n) = codes "  "
wide_mark_of (below n) = codes "  "
wide_mark_of (text t) = codes "  "
wide_mark_of (flag b) = if b then codes " *" else codes "  "
wide_mark_of empty = codes "  "

-- CSV has the column
abbrev pub has_field : Layout → Bool
has_field (layout.Right places) = true
has_field layout.Mark = true
has_field layout.WideMark = true
has_field layout.Label = true
has_field layout.Line = true
has_field (layout.Words places) = true
has_field layout.Member = false

-- a cell at the place of its column; a label stands behind the row, not in it, and a member has no
-- place in the text
abbrev pub placed : Layout → Cell → List ℕ
placed (layout.Right places) cell = column places (text_of cell)
placed layout.Mark cell = mark_of cell
placed layout.WideMark cell = wide_mark_of cell
placed layout.Label cell = []
placed layout.Line cell = text_of cell
placed (layout.Words places) cell = words_column places (text_of cell)
placed layout.Member cell = []

-- a heading at the place of its column: only columns that are aligned right have one in the row, and
-- a wide mark has blanks
abbrev pub placed_heading : Layout → List ℕ → List ℕ
placed_heading (layout.Right places) heading = column places heading
placed_heading layout.Mark heading = []
placed_heading layout.WideMark heading = codes "  "
placed_heading layout.Label heading = []
placed_heading layout.Line heading = []
placed_heading (layout.Words places) heading = words_column places heading
placed_heading layout.Member heading = []
