-- Texts of starts in four forms: bare numbers, a printed table, its CSV or its JSON
-- (docs/definitions.md, "Reports").
use Rattle.std.specs.Prelude.{◌≡◌, ℕ, Some, ◌==◌, ◌&&◌, ◌||◌, Bool, true, false, if◌then◌else◌}
use Rattle.std.specs.Prelude.{List, [], ◌∷◌, Result, Ok, map, drop, filter, length, codes}
use Rattle.std.specs.Prelude.{bytes_eq, nat_eq}
use Rattle.std.specs.List.{range_with_len, slice_split, starts_with}
use Rattle.serde_json.specs.Data.{Data}
use Rattle.plan_net.specs.Network.{Net, count_of, duration_of}
use Rattle.plan_psplib.specs.declared.text.fault.Fault.{Fault}
use Rattle.plan_psplib.specs.declared.text.fault.FileCode.TheVariants as code
use Rattle.plan_psplib.specs.Lines.{NumberedLine, is_nonempty, lines, words}
use Rattle.plan_psplib.specs.Plain.{plain}
use Rattle.plan_psplib.specs.Streams.{LineWord, words_of}
use Rattle.plan_psplib.specs.Tokens.{◌>>=◌, check}
use Rattle.plan_shop.specs.Shop.{JobShop, count_steps, machine_of, time_of}
use Rattle.plan_gantt.specs.ShopTable.{job_number, step_number}
use Rattle.plan_report.specs.IdRows.{ShowsRows, has_ids, rows_at}
use Rattle.plan_report.specs.JsonTable.{value_in, table_with, table_in}
use Rattle.plan_report.specs.StartNumbers.{SaysNumbers, numbers_in}
use Rattle.plan_report.specs.Sheet.{Entry, Row, Sheet, begins_with_makespan, nothing_left}
use Rattle.plan_report.specs.declared.sheet.Absence.{Absence}
use Rattle.plan_report.specs.declared.sheet.Absence.TheVariants as absences
use Rattle.plan_report.specs.declared.starts.Form.{Form}
use Rattle.plan_report.specs.declared.starts.Form.TheVariants as forms

-- the row of activity j: its number, its duration, its start and its end
abbrev pub activity_entry : Net → ℕ → Entry
activity_entry net j = record {
  keys = j ∷ duration_of net j ∷ [];
  duration = duration_of net j;
  absence = absences.Never;
}

abbrev pub activity_entries : Net → List Entry
activity_entries net = map (activity_entry net) (range_with_len 1 (count_of net))

-- the sheet of a project's starts, as `schedule` prints it
abbrev pub activity_sheet : Net → Sheet
activity_sheet net = record {
  columns = codes "act" ∷ codes "d" ∷ codes "start" ∷ codes "end" ∷ [];
  entries = activity_entries net;
  by_id = [];
  waits = [];
}

-- A table may lack the row of a step of time 0. Such a step starts at 0 if it is the first one of its
-- job, else at the end of the step before it.
abbrev pub absence_of : ℕ → ℕ → Absence
absence_of step time =
    if time == 0 then (if step == 1 then absences.AtZero else absences.AtEnd) else absences.Never

-- the row of the step with flat number x: the number of its job, its number in the job, its
-- machine, its time, its start and its end
abbrev pub step_entry : JobShop → ℕ → Entry
step_entry s x = record {
  keys = job_number s x ∷ step_number s x ∷ machine_of s x ∷ time_of s x ∷ [];
  duration = time_of s x;
  absence = absence_of (step_number s x) (time_of s x);
}

abbrev pub step_entries : JobShop → List Entry
step_entries s = map (step_entry s) (range_with_len 0 (count_steps s))

-- the sheet of a job shop's starts, as `shop` prints it
abbrev pub step_sheet : JobShop → Sheet
step_sheet s = record {
  columns =
      codes "job" ∷ codes "step" ∷ codes "mach" ∷ codes "d" ∷ codes "start" ∷ codes "end" ∷ [];
  entries = step_entries s;
  by_id = [];
  waits = [];
}

-- the first word of a text, empty if there is none
abbrev pub text_of_first : List LineWord → List ℕ
text_of_first [] = []
text_of_first (word ∷ words) = word.text

abbrev pub first_word : List ℕ → List ℕ
first_word text = text_of_first (words_of (lines text))

-- the words that begin a table: the result of a search, or the name of the first column. `id` is
-- one only if there are ids.
abbrev pub is_result : List ℕ → Bool
is_result word =
    bytes_eq word (codes "optimal") || bytes_eq word (codes "between")
    || bytes_eq word (codes "budget")

abbrev pub is_table_word : Bool → List ℕ → Bool
is_table_word ids word =
    is_result word || bytes_eq word (codes "act") || bytes_eq word (codes "job")
    || (ids && bytes_eq word (codes "id"))

-- the beginnings of a header line of CSV: the name of a first column and a separator
abbrev pub begins_id_csv : List ℕ → Bool
begins_id_csv word = starts_with nat_eq word (codes "id,") || starts_with nat_eq word (codes "id;")

abbrev pub begins_csv : Bool → List ℕ → Bool
begins_csv ids word =
    starts_with nat_eq word (codes "act,") || starts_with nat_eq word (codes "act;")
    || starts_with nat_eq word (codes "job,") || starts_with nat_eq word (codes "job;")
    || (ids && begins_id_csv word)

-- a text without a byte-order mark (UTF-8) at its start
abbrev pub without_mark : List ℕ → List ℕ
without_mark text =
    if starts_with nat_eq text (0xEF ∷ 0xBB ∷ 0xBF ∷ []) then drop 3 text else text

-- the beginning of a JSON document: a brace
abbrev pub begins_json : List ℕ → Bool
begins_json word = starts_with nat_eq word (codes "{")

-- the form of a text with this first word
abbrev pub form_by : Bool → List ℕ → Form
form_by ids word =
    if is_table_word ids word then forms.Table
    else (if begins_csv ids word then forms.Csv
    else (if begins_json word then forms.Json else forms.Numbers))

-- the form of a text, which may begin with a byte-order mark
abbrev pub form_of : Sheet → List ℕ → Form
form_of sheet text = form_by (has_ids sheet) (first_word (without_mark text))

-- a comma or a semicolon
abbrev pub is_separator : ℕ → Bool
is_separator byte = byte == 44 || byte == 59

-- the cells of a line: its words, or for CSV and the rows of JSON the text between separators
abbrev pub cells_by : Form → List ℕ → List (List ℕ)
cells_by forms.Numbers line = words line
cells_by forms.Table line = words line
cells_by forms.Csv line = slice_split is_separator line
cells_by forms.Json line = slice_split is_separator line

-- the rows of a text: the cells of each line that isn't blank
abbrev pub row_by : Form → NumberedLine → Row
row_by form line = record { line = line.number; cells = cells_by form line.text }

abbrev pub rows_by : Form → List ℕ → List Row
rows_by form text =
    map (row_by form) (filter (λ line. is_nonempty line.text) (lines (without_mark text)))

-- rows without a first one that begins with the result of a search
abbrev pub begins_with_result : List (List ℕ) → Bool
begins_with_result [] = false
begins_with_result (cell ∷ cells) = is_result cell

abbrev pub behind_result : List Row → List Row
behind_result [] = []
behind_result (row ∷ rows) = if begins_with_result row.cells then rows else row ∷ rows

-- the end of a table: perhaps a last row with the makespan
abbrev pub IsTableEnd : List Row → Type 0
IsTableEnd [] = Unit {0}
IsTableEnd (row ∷ []) = begins_with_makespan row.cells ≡ true
IsTableEnd (row ∷ next ∷ rows) = ⊥

-- a text is a table of starts, as commands print it or as CSV
pub record SaysTable (form : Form) (sheet : Sheet) (text starts : List ℕ) : Type 0 where
  pub rest : List Row
  pub shown : ShowsRows form sheet (behind_result (rows_by form text)) starts rest
  pub ended : IsTableEnd rest

-- a text is a JSON document whose table gives starts
pub record SaysJson (sheet : Sheet) (text starts : List ℕ) : Type 0 where
  pub value : Data
  pub json : value_in (without_mark text) ≡ Some value
  pub said : SaysTable forms.Json sheet (table_with (has_ids sheet) sheet.columns value) starts

-- a text of a form gives starts
abbrev pub SaysBy : Form → Sheet → List ℕ → List ℕ → Type 0
SaysBy forms.Numbers sheet text starts = SaysNumbers (length sheet.entries) (without_mark text) starts
SaysBy forms.Table sheet text starts = SaysTable forms.Table sheet text starts
SaysBy forms.Csv sheet text starts = SaysTable forms.Csv sheet text starts
SaysBy forms.Json sheet text starts = SaysJson sheet text starts

-- a text gives the starts of a sheet, in the form that its first word shows
pub record SaysStarts (sheet : Sheet) (text starts : List ℕ) : Type 0 where
  pub readable : plain text ≡ Ok tt
  pub said : SaysBy (form_of sheet text) sheet text starts

-- the end of a table, or the first check that it fails
unfoldable pub table_end : List Row → Result (Unit {0}) Fault
table_end [] = Ok tt
table_end (row ∷ rows) = do
  last ← check (begins_with_makespan row.cells) code.Count row.line
  nothing_left rows

-- the starts in a table, or the first check that it fails
unfoldable pub table_starts : Form → Sheet → List ℕ → Result (List ℕ) Fault
table_starts form sheet text = do
  read ← rows_at form sheet (behind_result (rows_by form text))
  ended ← table_end read.1
  Ok read.0

-- the starts in a JSON document, or the first check that it fails
unfoldable pub json_starts : Sheet → List ℕ → Result (List ℕ) Fault
json_starts sheet text = do
  table ← table_in (has_ids sheet) sheet.columns (without_mark text)
  table_starts forms.Json sheet table

abbrev pub starts_by : Form → Sheet → List ℕ → Result (List ℕ) Fault
starts_by forms.Numbers sheet text = numbers_in (length sheet.entries) (without_mark text)
starts_by forms.Table sheet text = table_starts forms.Table sheet text
starts_by forms.Csv sheet text = table_starts forms.Csv sheet text
starts_by forms.Json sheet text = json_starts sheet text

-- the starts in a text, or the first check that it fails
unfoldable pub starts_in : Sheet → List ℕ → Result (List ℕ) Fault
starts_in sheet text = do
  good ← plain text
  starts_by (form_of sheet text) sheet text
