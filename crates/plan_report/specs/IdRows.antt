-- Tables with ids: rows in any order, each with the id of its activity in the first cell
-- (docs/definitions.md, "Reports").
use Rattle.std.specs.Prelude.{◌≡◌, ℕ, ◌+◌, ◌≤◌, ◌==◌, Bool, true, false, if◌then◌else◌}
use Rattle.std.specs.Prelude.{List, [], ◌∷◌, ◌++◌, All, Result, Ok, map, take, drop, filter, length}
use Rattle.std.specs.Prelude.{◌&&◌, bytes_eq, codes, nat_eq, nat_le, nat_lt, slice_index_or}
use Rattle.std.specs.List.{flat_map, starts_with}
use Rattle.plan_psplib.specs.declared.text.fault.Fault.{Fault}
use Rattle.plan_psplib.specs.declared.text.fault.FileCode.{FileCode}
use Rattle.plan_psplib.specs.declared.text.fault.FileCode.TheVariants as code
use Rattle.plan_psplib.specs.Tokens.{◌>>=◌, fault, check}
use Rattle.plan_sgs.specs.Problem.{greatest_below}
use Rattle.plan_gantt.specs.Limits.{latest_start}
use Rattle.plan_report.specs.Sheet.{IdEntry, Row, Sheet, ShowsSheet, ShowsStart, start_in}
use Rattle.plan_report.specs.Sheet.{begins_with_makespan, has_columns, sheet_at}
use Rattle.plan_report.specs.declared.starts.Form.{Form}
use Rattle.plan_report.specs.declared.starts.Form.TheVariants as forms

-- the names of the columns
abbrev pub id_columns : List (List ℕ)
id_columns = codes "id" ∷ codes "d" ∷ codes "start" ∷ codes "end" ∷ []

-- an id in quotes, each quote in it twice (RFC 4180)
abbrev pub doubled : ℕ → List ℕ
doubled byte = if byte == 34 then 34 ∷ 34 ∷ [] else byte ∷ []

abbrev pub quoted : List ℕ → List ℕ
quoted id = 34 ∷ flat_map doubled id ++ 34 ∷ []

-- a cell of CSV is an id, perhaps in quotes
abbrev pub is_field : List ℕ → List ℕ → Bool
is_field id cell =
    if starts_with nat_eq cell (34 ∷ []) then bytes_eq cell (quoted id) else bytes_eq cell id

-- a cell is an id
abbrev pub is_id : Form → List ℕ → List ℕ → Bool
is_id forms.Numbers id cell = bytes_eq cell id
is_id forms.Table id cell = bytes_eq cell id
is_id forms.Csv id cell = is_field id cell
is_id forms.Json id cell = bytes_eq cell id

-- the first cell is an id
abbrev pub has_id : Form → List ℕ → List (List ℕ) → Bool
has_id form id [] = false
has_id form id (cell ∷ cells) = is_id form id cell

-- the rows with an id
abbrev pub rows_with : Form → List ℕ → List Row → List Row
rows_with form id rows = filter (λ row. has_id form id row.cells) rows

-- rows from the first one with an id on; none if no row has it
abbrev pub IsFromFirst : Form → List ℕ → List Row → List Row → Type 0
IsFromFirst form id rows [] = rows_with form id rows ≡ []
IsFromFirst form id rows (row ∷ rest) = rows_with form id rows ≡ row ∷ rows_with form id rest

-- the activities with the id of a row
abbrev pub entries_with : Form → List IdEntry → Row → List IdEntry
entries_with form entries row = filter (λ entry. has_id form entry.id row.cells) entries

-- a row without its id
abbrev pub behind_id : Row → Row
behind_id row = record { line = row.line; cells = drop 1 row.cells }

-- an activity starts as the row with its id shows, which is the only one
pub record ShowsById (form : Form) (rows : List Row) (entry : IdEntry) (start : ℕ) : Type 0 where
  pub row : Row
  pub only : rows_with form entry.id rows ≡ row ∷ []
  pub shown : ShowsStart entry.entry start (behind_id row)

-- each activity starts as the row with its id shows
abbrev pub ShowAllById : Form → List Row → List IdEntry → List ℕ → Type 0
ShowAllById form rows [] [] = Unit {0}
ShowAllById form rows (entry ∷ entries) (start ∷ starts) =
    ShowsById form rows entry start × ShowAllById form rows entries starts
ShowAllById form rows _ _ = ⊥

-- the durations of activities
abbrev pub durations_of : List IdEntry → List ℕ
durations_of entries = map (λ entry. entry.entry.duration) entries

-- the end of the activity at a place
abbrev pub end_at : List IdEntry → List ℕ → ℕ → ℕ
end_at entries starts k = slice_index_or starts k 0 + slice_index_or (durations_of entries) k 0

-- the greatest end of activities that start then
abbrev pub greatest_end : List IdEntry → List ℕ → ℕ
greatest_end entries starts = greatest_below (length entries) (end_at entries starts)

-- the starts of all activities: the first starts at 0, those with ids as given, each wait at the end
-- of the activity that it is behind, and the last one at the greatest end
abbrev pub all_starts : List IdEntry → List ℕ → List ℕ → List ℕ
all_starts entries waits inner =
    0 ∷ (inner ++ map (end_at entries inner) waits) ++ greatest_end entries inner ∷ []

-- rows show starts by ids: a row with the names of the columns, as many rows as activities with an
-- id, and then the rest. Each row has the id of one activity, and each activity starts as the row
-- with its id shows. The activities without an id are the first, the waits and the last.
pub record ShowsIds (form : Form) (sheet : Sheet) (rows : List Row) (starts : List ℕ)
    (rest : List Row) : Type 0 where
  pub head : Row
  pub body : List Row
  pub split : rows ≡ head ∷ body ++ rest
  pub named : has_columns id_columns head.cells ≡ true
  pub whole : length body ≡ length sheet.by_id
  pub known : All (λ row. length (entries_with form sheet.by_id row) ≡ 1) body
  pub inner : List ℕ
  pub shown : ShowAllById form body sheet.by_id inner
  pub in_time : greatest_end sheet.by_id inner ≤ latest_start
  pub all : starts ≡ all_starts sheet.by_id sheet.waits inner

-- a sheet has ids
abbrev pub has_ids : Sheet → Bool
has_ids sheet = nat_lt 0 (length sheet.by_id)

-- the first cell is the name of the column of ids
abbrev pub is_id_head : List (List ℕ) → Bool
is_id_head [] = false
is_id_head (cell ∷ cells) = bytes_eq cell (codes "id")

-- rows begin with the names of the columns of ids, and the sheet has ids
abbrev pub begins_with_id : Sheet → List Row → Bool
begins_with_id sheet [] = false
begins_with_id sheet (row ∷ rows) = has_ids sheet && is_id_head row.cells

-- rows show starts, by ids or by numbers
abbrev pub ShowsBy : Bool → Form → Sheet → List Row → List ℕ → List Row → Type 0
ShowsBy true form sheet rows starts rest = ShowsIds form sheet rows starts rest
ShowsBy false form sheet rows starts rest = ShowsSheet sheet rows starts rest

abbrev pub ShowsRows : Form → Sheet → List Row → List ℕ → List Row → Type 0
ShowsRows form sheet rows starts rest =
    ShowsBy (begins_with_id sheet rows) form sheet rows starts rest

-- Reading: first the rows' ids in the order of the rows, then the starts in the order of the
-- activities, up to the first check that fails.

-- the line of the last row, or that of the row before
abbrev pub last_line : ℕ → List Row → ℕ
last_line line [] = line
last_line line (row ∷ rows) = last_line row.line rows

-- the error of a row whose id isn't that of one activity: a row is missing before the makespan
abbrev pub unknown_code : List (List ℕ) → FileCode
unknown_code cells = if begins_with_makespan cells then code.Count else code.JobOrder

unfoldable pub known_at : Form → List IdEntry → Row → Result (Unit {0}) Fault
known_at form entries row =
    check (length (entries_with form entries row) == 1) (unknown_code row.cells) row.line

unfoldable pub all_known : Form → List IdEntry → List Row → Result (Unit {0}) Fault
all_known form entries [] = Ok tt
all_known form entries (row ∷ rows) = do
  known ← known_at form entries row
  all_known form entries rows

-- the start of an activity in the only one of the rows with its id
abbrev pub start_of : ℕ → List Row → IdEntry → Result ℕ Fault
start_of last [] entry = fault code.Count last
start_of last (row ∷ []) entry = start_in entry.entry (behind_id row)
start_of last (row ∷ again ∷ rows) entry = fault code.JobOrder again.line

-- the start of an activity
abbrev pub start_by_id : Form → ℕ → List Row → IdEntry → Result ℕ Fault
start_by_id form last rows entry = start_of last (rows_with form entry.id rows) entry

-- the starts of the next activities, after those before
unfoldable pub starts_by_id : Form → ℕ → List Row → List ℕ → List IdEntry → Result (List ℕ) Fault
starts_by_id form last rows before [] = Ok before
starts_by_id form last rows before (entry ∷ entries) = do
  start ← start_by_id form last rows entry
  starts_by_id form last rows (before ++ start ∷ []) entries

-- the starts of all activities
unfoldable pub starts_of_body : Form → ℕ → List IdEntry → List ℕ → List Row → Result (List ℕ) Fault
starts_of_body form last entries waits rows = do
  known ← all_known form entries rows
  inner ← starts_by_id form last rows [] entries
  early ← check (nat_le (greatest_end entries inner) latest_start) code.Limit last
  Ok (all_starts entries waits inner)

-- the next rows, and those behind them
unfoldable pub rows_before : ℕ → ℕ → List Row → Result (List Row × List Row) Fault
rows_before line count rows = do
  enough ← check (nat_le count (length rows)) code.Count (last_line line rows)
  Ok (take count rows, drop count rows)

-- the starts in a table with ids, and the rows behind it
unfoldable pub id_rows_at : Form → Sheet → List Row → Result (List ℕ × List Row) Fault
id_rows_at form sheet [] = fault code.MissingHead 0
id_rows_at form sheet (head ∷ rows) = do
  named ← check (has_columns id_columns head.cells) code.MissingHead head.line
  split ← rows_before head.line (length sheet.by_id) rows
  starts ← starts_of_body form (last_line head.line split.0) sheet.by_id sheet.waits split.0
  Ok (starts, split.1)

-- the starts in rows, by ids or by numbers, and the rows behind them
unfoldable pub rows_at : Form → Sheet → List Row → Result (List ℕ × List Row) Fault
rows_at form sheet rows =
    if begins_with_id sheet rows then id_rows_at form sheet rows else sheet_at sheet rows
