-- A planner's own list with the times of its activities. Records are those of plan_table.
use Rattle.std.specs.Prelude.{◌≡◌, ℕ, ◌+◌, ◌-◌, ◌==◌, ◌&&◌, ◌||◌, Bool, if◌then◌else◌, List, [], ◌∷◌, ◌++◌, Option, Some, None, Ok, codes, drop, length, map, replicate, take}
use Rattle.std.specs.List.{find, list_any}
use Rattle.std.specs.String.{string_bytes}
use Rattle.plan_encoding.specs.Encodings.{utf8_of}
use Rattle.plan_psplib.specs.Lines.{trim}
use Rattle.plan_table.specs.Cells.{same, same_name}
use Rattle.plan_table.specs.Csv.{Row}
use Rattle.plan_table.specs.Listing.{rows_read, table_read_with}
use Rattle.plan_table.specs.Overrides.{Override}
use Rattle.plan_table.specs.ProjectText.{project_text}
use Rattle.plan_table.specs.Table.{Table}
use Rattle.plan_spreadsheet.specs.declared.list.PlainList.{PlainList}
use Rattle.plan_spreadsheet.specs.Options.{Options}
use Rattle.plan_spreadsheet.specs.PlainLists.{text_of}
use Rattle.plan_spreadsheet.specs.PreparedLists.{IsPlainWith}
use Rattle.plan_spreadsheet.specs.Rows.{Spells, filled}
use Rattle.plan_list_back.specs.declared.times.Field.{Field}
use Rattle.plan_list_back.specs.declared.times.Field.TheVariants as fields
use Rattle.plan_list_back.specs.declared.times.Times as declared

-- ---- times

-- the texts for an activity, whose row begins in a line; the id is empty if the list has no ids
pub record Times : Type 0 where
  pub line : ℕ
  pub id : List ℕ
  pub start : List ℕ
  pub finish : List ℕ
  pub slack : List ℕ

-- the same, as the program keeps it
abbrev pub times_of : declared.Times → Times
times_of t = record {
  line = t.line;
  id = t.id.now;
  start = string_bytes t.start;
  finish = string_bytes t.finish;
  slack = string_bytes t.slack;
}

-- the header of a column of times
abbrev pub word_of : Field → List ℕ
word_of fields.Start = codes "start"
word_of fields.Finish = codes "finish"
word_of fields.Slack = codes "slack"

abbrev pub text_in : Field → Times → List ℕ
text_in fields.Start t = t.start
text_in fields.Finish t = t.finish
text_in fields.Slack t = t.slack

abbrev pub text_if : Field → Option Times → List ℕ
text_if field None = []
text_if field (Some t) = text_in field t

-- an id is empty, or a cell has it between blanks
abbrev pub has_id : List ℕ → List (List ℕ) → Bool
has_id id cells = length id == 0 || list_any (λ cell. same (trim cell) id) cells

-- times are those of a row: it begins in their line, and has their id
abbrev pub are_of : Row → Times → Bool
are_of row t = t.line == row.line && has_id t.id row.cells

-- the text for a row: that of its first times, or an empty one
abbrev pub text_for : Field → List Times → Row → List ℕ
text_for field times row = text_if field (find (are_of row) times)

-- ---- columns

-- the first of the cells from column k on that is a header, without regard to ASCII case
unfoldable pub place_from : List ℕ → ℕ → List (List ℕ) → Option ℕ
place_from word k [] = None
place_from word k (cell ∷ cells) = if same_name word (trim cell) then Some k else place_from word (k + 1) cells

abbrev pub place_in : List ℕ → List (List ℕ) → Option ℕ
place_in word cells = place_from word 0 cells

abbrev pub place_or : ℕ → Option ℕ → ℕ
place_or end None = end
place_or end (Some k) = k

-- cells, and empty ones up to column k
abbrev pub padded : ℕ → List (List ℕ) → List (List ℕ)
padded k cells = cells ++ replicate (k - length cells) []

-- cells with a text in column k
abbrev pub put : ℕ → List ℕ → List (List ℕ) → List (List ℕ)
put k text cells = take k (padded k cells) ++ text ∷ drop (k + 1) cells

-- a header with a word behind its cells, unless it has it already
abbrev pub header_cells : List ℕ → Option ℕ → List (List ℕ) → List (List ℕ)
header_cells word None cells = cells ++ word ∷ []
header_cells word (Some k) cells = cells

abbrev pub header_with : List ℕ → Row → Row
header_with word row = record { line = row.line; cells = header_cells word (place_in word row.cells) row.cells }

-- a row with its text in column k
abbrev pub row_with : Field → List Times → ℕ → Row → Row
row_with field times k row = record { line = row.line; cells = put k (text_for field times row) row.cells }

-- the place of the column of a field in the rows under a header, once the header has it
abbrev pub place_of : Field → Row → ℕ
place_of field first = place_or (length first.cells) (place_in (word_of field) first.cells)

-- rows with a column of times; the first row is the header
abbrev pub with_column : Field → List Times → List Row → List Row
with_column field times [] = []
with_column field times (first ∷ rows) =
    header_with (word_of field) first ∷ map (row_with field times (place_of field first)) rows

-- rows with all times
abbrev pub with_times : List Times → List Row → List Row
with_times times rows =
    with_column fields.Slack times (with_column fields.Finish times (with_column fields.Start times rows))

-- ---- lists

-- a text is the list of a file with the times of its activities, each row in its line
abbrev pub IsBack : List Times → List ℕ → List ℕ → Type 0
IsBack times bytes made =
    (rows : List Row) × (rows_read (utf8_of bytes) ≡ Ok rows) × Spells made (with_times times (filled rows))

-- a file is read as a table: its plain list is
abbrev pub IsReadAs : Options → List Override → List ℕ → Table → Type 0
IsReadAs o overrides bytes t =
    (p : PlainList) × IsPlainWith o overrides bytes p × (table_read_with overrides (text_of p bytes) ≡ Ok t)

-- two files are read as tables that are written as the same project
abbrev pub SameProject : Options → List Override → List ℕ → List ℕ → Type 0
SameProject o overrides bytes made =
    (t : Table) × (u : Table) × IsReadAs o overrides bytes t × IsReadAs o overrides made u
    × (project_text t ≡ project_text u)

-- a text is the project file of a file that is read as a table
abbrev pub IsProjectOf : Options → List Override → List ℕ → List ℕ → Type 0
IsProjectOf o overrides bytes text = (t : Table) × IsReadAs o overrides bytes t × (text ≡ project_text t)
