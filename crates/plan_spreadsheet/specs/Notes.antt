-- Notes: columns that a plan doesn't use. They have no capacity, and contain text or nothing.
use Rattle.std.specs.Prelude.{ℕ, ◌+◌, ◌==◌, ◌&&◌, ◌||◌, Bool, if◌then◌else◌, List, [], ◌∷◌, ◌++◌, Result, Ok, Err, codes, length, map, not, is_none}
use Rattle.std.specs.List.{list_all, list_any}
use Rattle.plan_psplib.specs.Numbers.{number}
use Rattle.plan_table.specs.declared.header.Column.TheVariants as columns
use Rattle.plan_table.specs.Cells.{same_name}
use Rattle.plan_table.specs.Csv.{Row}
use Rattle.plan_table.specs.Header.{Head, heads_at, same_kind}
use Rattle.plan_table.specs.Overrides.{Override}
use Rattle.plan_table.specs.Reading.{Fault}
use Rattle.plan_table.specs.Settlement.{Body, cell_of, gives_successors, has_capacity, ids_place, settled}
use Rattle.plan_spreadsheet.specs.Assignments.{is_assignment_word}

-- a cell contains text: it is neither empty nor a number
abbrev pub is_text : List ℕ → Bool
is_text cell = not (length cell == 0) && is_none (number cell)

-- column k contains text in one of the rows
abbrev pub has_text : List Row → ℕ → Bool
has_text rows k = list_any (λ row. is_text (cell_of k row)) rows

-- column k has no entry in any of the rows
abbrev pub is_vacant : List Row → ℕ → Bool
is_vacant rows k = list_all (λ row. length (cell_of k row) == 0) rows

-- a column with a word for names of resources that names none
abbrev pub names_none : Body → ℕ → Head → Bool
names_none body k head = is_assignment_word head.key && is_vacant body.rows k

-- a column of the slack of activities is a note without text too
abbrev pub is_slack_word : List ℕ → Bool
is_slack_word key = same_name (codes "slack") key

-- column k is a note: its header alone would make it a resource, but it has no capacity and isn't a
-- column of successors; and it has text, or is one of the slack, or names no resources
abbrev pub is_note : Body → ℕ → Head → Bool
is_note body k head =
    same_kind columns.Resource head.column && not (has_capacity body k head)
    && not (gives_successors body k head)
    && (has_text body.rows k || is_slack_word head.key || names_none body k head)

-- the notes so far, with column k if it is one
abbrev pub with_note : Body → List ℕ → ℕ → Head → List ℕ
with_note body before k head = if is_note body k head then before ++ k ∷ [] else before

-- the columns from column k on that are notes, appended to the earlier ones
unfoldable pub notes_from : Body → List ℕ → ℕ → List Head → List ℕ
notes_from body before k [] = before
notes_from body before k (head ∷ heads) =
    notes_from body (with_note body before k head) (k + 1) heads

-- the notes of a list with these columns
abbrev pub notes_under : List Override → List Row → List Head → List ℕ
notes_under overrides rows heads =
    notes_from (record { overrides = overrides; rows = rows; place = ids_place overrides heads }) [] 0
    (settled overrides rows heads)

-- the same; a list whose header can't be read has none
abbrev pub notes_if : List Override → List Row → Result (List Head) Fault → List ℕ
notes_if overrides rows (Err fault) = []
notes_if overrides rows (Ok heads) = notes_under overrides rows heads

-- the notes of a list: its header, and the rows behind it
abbrev pub notes : List Override → Row → List Row → List ℕ
notes overrides first rows = notes_if overrides rows (heads_at first.line [] first.cells)

-- the headers of columns
abbrev pub headers : Row → List ℕ → List (List ℕ)
headers first places = map (λ place. cell_of place first) places
