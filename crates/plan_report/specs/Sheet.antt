-- Sheets of starts: rows of cells, from a printed table or its CSV (docs/definitions.md,
-- "Reports").
use Rattle.std.specs.Prelude.{◌≡◌, ℕ, ◌+◌, ◌≤◌, ◌==◌, ◌&&◌, Bool, true, false, List, [], ◌∷◌}
use Rattle.std.specs.Prelude.{◌⊎◌, ◌++◌, Option, Some, None, Result, Ok, map}
use Rattle.std.specs.Prelude.{bytes_eq, codes, nat_le, if◌then◌else◌, is_ok}
use Rattle.std.specs.Borrow.{Bor}
use Rattle.plan_psplib.specs.declared.text.fault.Fault.{Fault}
use Rattle.plan_psplib.specs.declared.text.fault.FileCode.TheVariants as code
use Rattle.plan_psplib.specs.Numbers.{number}
use Rattle.plan_psplib.specs.Tokens.{◌>>=◌, fault, check}
use Rattle.plan_gantt.specs.Limits.{latest_start}
use Rattle.plan_report.specs.declared.sheet.Absence.{Absence}
use Rattle.plan_report.specs.declared.sheet.Absence.TheVariants as absences
use Rattle.plan_report.specs.declared.sheet.Entry as declared_entry
use Rattle.plan_report.specs.declared.sheet.IdEntry as declared_id_entry
use Rattle.plan_report.specs.declared.sheet.Sheet as declared_sheet
use Rattle.plan_report.specs.declared.sheet.Row as declared_row

-- a row: the number of its line, and its cells
pub record Row : Type 0 where
  pub line : ℕ
  pub cells : List (List ℕ)

-- The numbers of a row before its start. The last of them is the duration. `absence` tells whether
-- the sheet may lack this row.
pub record Entry : Type 0 where
  pub keys : List ℕ
  pub duration : ℕ
  pub absence : Absence

-- an activity by its id: its row without the id, up to the start
pub record IdEntry : Type 0 where
  pub id : List ℕ
  pub entry : Entry

-- The names of the columns, and an entry for each row. If activities have ids, their entries by
-- these, and for each wait behind them the place of the one that the wait is behind.
pub record Sheet : Type 0 where
  pub columns : List (List ℕ)
  pub entries : List Entry
  pub by_id : List IdEntry
  pub waits : List ℕ

-- the same, as the program keeps them
abbrev pub entry_of : declared_entry.Entry → Entry
entry_of entry = record {
  keys = entry.keys.items;
  duration = entry.duration;
  absence = entry.absence;
}

abbrev pub id_entry_of : declared_id_entry.IdEntry → IdEntry
id_entry_of entry = record { id = entry.id.now; entry = entry_of entry.entry }

abbrev pub sheet_of : declared_sheet.Sheet → Sheet
sheet_of sheet = record {
  columns = map (λ name. name.now) sheet.columns.now;
  entries = map entry_of sheet.entries.items;
  by_id = map id_entry_of sheet.by_id.items;
  waits = sheet.waits.items;
}

abbrev pub cells_of : List (Bor (List ℕ)) → List (List ℕ)
cells_of cells = map (λ cell. cell.now) cells

abbrev pub row_of : declared_row.Row → Row
row_of row = record { line = row.line; cells = cells_of row.cells.items }

-- the first cells spell these numbers, and other cells may follow
abbrev pub BeginsWith : List (List ℕ) → List ℕ → Type 0
BeginsWith cells [] = Unit {0}
BeginsWith [] (n ∷ ns) = ⊥
BeginsWith (cell ∷ cells) (n ∷ ns) = (number cell ≡ Some n) × BeginsWith cells ns

-- a row shows a start: the numbers of its entry, the start and the end, and perhaps a name
pub record ShowsStart (entry : Entry) (start : ℕ) (row : Row) : Type 0 where
  pub spelled : BeginsWith row.cells (entry.keys ++ start ∷ (start + entry.duration) ∷ [])
  pub in_time : start ≤ latest_start

-- the first cells are these names
unfoldable pub has_columns : List (List ℕ) → List (List ℕ) → Bool
has_columns [] cells = true
has_columns (name ∷ names) [] = false
has_columns (name ∷ names) (cell ∷ cells) = bytes_eq cell name && has_columns names cells

-- Reading from the first row to the last, up to the first check that fails. A fault has the line of
-- its row.

-- the number in a cell
abbrev pub as_number : ℕ → Option ℕ → Result ℕ Fault
as_number line None = fault code.BadNumber line
as_number line (Some n) = Ok n

-- a cell that must be a number
unfoldable pub cell_is : ℕ → ℕ → List ℕ → Result (Unit {0}) Fault
cell_is line wanted cell = do
  n ← as_number line (number cell)
  check (n == wanted) code.JobOrder line

-- the cells behind the next ones, which must be these numbers
unfoldable pub expect_all : ℕ → List ℕ → List (List ℕ) → Result (List (List ℕ)) Fault
expect_all line [] cells = Ok cells
expect_all line (n ∷ ns) [] = fault code.Count line
expect_all line (n ∷ ns) (cell ∷ cells) = do
  same ← cell_is line n cell
  expect_all line ns cells

-- the start in the next cell, and the cells behind it
unfoldable pub start_at : ℕ → List (List ℕ) → Result (ℕ × List (List ℕ)) Fault
start_at line [] = fault code.Count line
start_at line (cell ∷ cells) = do
  start ← as_number line (number cell)
  early ← check (nat_le start latest_start) code.Limit line
  Ok (start, cells)

-- the start in a row
unfoldable pub start_in : Entry → Row → Result ℕ Fault
start_in entry row = do
  rest ← expect_all row.line entry.keys row.cells
  start ← start_at row.line rest
  end ← expect_all row.line ((start.0 + entry.duration) ∷ []) start.1
  Ok start.0

-- the next row is that of an entry: its first cells spell the numbers of the entry
abbrev pub is_next : Entry → List Row → Bool
is_next entry [] = false
is_next entry (row ∷ rows) = is_ok (expect_all row.line entry.keys row.cells)

-- the start of an entry without a row, behind an entry with this end; none if it must have a row
abbrev pub absent_start : Absence → ℕ → Option ℕ
absent_start absences.Never end = None
absent_start absences.AtZero end = Some 0
absent_start absences.AtEnd end = Some end

-- the next row shows the start of an entry, and the others follow
abbrev pub ShowsRow : Entry → ℕ → List Row → List Row → Type 0
ShowsRow entry start [] others = ⊥
ShowsRow entry start (row ∷ rows) others = ShowsStart entry start row × (rows ≡ others)

-- the next row isn't that of an entry, which has this start without a row
pub record IsLeftOut (end : ℕ) (entry : Entry) (start : ℕ) (rows others : List Row) : Type 0 where
  pub absent : absent_start entry.absence end ≡ Some start
  pub missing : is_next entry rows ≡ false
  pub in_time : start ≤ latest_start
  pub same : rows ≡ others

-- an entry has this start, by its row or without a row; the other rows follow
abbrev pub ShowsNext : ℕ → Entry → ℕ → List Row → List Row → Type 0
ShowsNext end entry start rows others =
    ShowsRow entry start rows others ⊎ IsLeftOut end entry start rows others

-- rows show the start of each entry, behind an entry with this end, and then the rest follows
abbrev pub ShowStarts : ℕ → List Entry → List ℕ → List Row → List Row → Type 0
ShowStarts end [] [] rows rest = rows ≡ rest
ShowStarts end (entry ∷ entries) (start ∷ starts) rows rest =
    (others : List Row) × ShowsNext end entry start rows others
    × ShowStarts (start + entry.duration) entries starts others rest
ShowStarts _ _ _ _ _ = ⊥

-- rows show starts: a row with the names of the columns, a row for each start, and then the rest;
-- rows may be missing as their entries allow
pub record ShowsSheet (sheet : Sheet) (rows : List Row) (starts : List ℕ)
    (rest : List Row) : Type 0 where
  pub head : Row
  pub behind : List Row
  pub split : rows ≡ head ∷ behind
  pub named : has_columns sheet.columns head.cells ≡ true
  pub shown : ShowStarts 0 sheet.entries starts behind rest

-- the start in the next row, its line, and the rows behind it
unfoldable pub row_start : ℕ → Entry → List Row → Result (ℕ × ℕ × List Row) Fault
row_start last entry [] = fault code.Count last
row_start last entry (row ∷ rows) = do
  start ← start_in entry row
  Ok (start, row.line, rows)

-- the start of an entry without a row, which must be in time
abbrev pub early_start : ℕ → ℕ → Result ℕ Fault
early_start last start = if nat_le start latest_start then Ok start else fault code.Limit last

-- the same with the rows, if the next one isn't that of the entry
abbrev pub left_out : ℕ → ℕ → List Row → Result (ℕ × ℕ × List Row) Fault
left_out last start rows = do
  early ← early_start last start
  Ok (early, last, rows)

-- the start of the next entry: that without a row, if it may be left out
abbrev pub start_by : ℕ → Option ℕ → Entry → List Row → Result (ℕ × ℕ × List Row) Fault
start_by last None entry rows = row_start last entry rows
start_by last (Some start) entry rows =
    if is_next entry rows then row_start last entry rows else left_out last start rows

unfoldable pub next_start : ℕ → ℕ → Entry → List Row → Result (ℕ × ℕ × List Row) Fault
next_start last end entry rows = start_by last (absent_start entry.absence end) entry rows

-- the starts in the next rows, after those before, and the rows behind them; the entry before them
-- has this end
unfoldable pub starts_after : List ℕ → ℕ → ℕ → List Entry → List Row
    → Result (List ℕ × List Row) Fault
starts_after before last end [] rows = Ok (before, rows)
starts_after before last end (entry ∷ entries) rows = do
  next ← next_start last end entry rows
  starts_after (before ++ next.0 ∷ []) next.1 (next.0 + entry.duration) entries next.2

-- the starts in a sheet, and the rows behind it
unfoldable pub sheet_at : Sheet → List Row → Result (List ℕ × List Row) Fault
sheet_at sheet [] = fault code.MissingHead 0
sheet_at sheet (head ∷ rows) = do
  named ← check (has_columns sheet.columns head.cells) code.MissingHead head.line
  starts_after [] head.line 0 sheet.entries rows

-- cells begin with `makespan`
abbrev pub begins_with_makespan : List (List ℕ) → Bool
begins_with_makespan [] = false
begins_with_makespan (cell ∷ cells) = bytes_eq cell (codes "makespan")

-- no row is left
abbrev pub nothing_left : List Row → Result (Unit {0}) Fault
nothing_left [] = Ok tt
nothing_left (row ∷ rows) = fault code.Count row.line
