-- The rows of a list: those of activities, each with its dates, and those of absences.
use Rattle.std.specs.Prelude.{ℕ, ◌+◌, ◌&&◌, ◌||◌, Bool, if◌then◌else◌, List, [], ◌∷◌, ◌++◌, Option, Some, None, Result, Ok, map, not}
use Rattle.plan_psplib.specs.Lines.{trim}
use Rattle.plan_spreadsheet.specs.Assignments.{amounts_from, names_in, parts}
use Rattle.plan_table.specs.declared.header.Column.TheVariants as kinds
use Rattle.plan_table.specs.Csv.{Row}
use Rattle.plan_table.specs.Entries.{is_blank_row}
use Rattle.plan_table.specs.Header.{Head, same_kind}
use Rattle.plan_table.specs.Settlement.{cell_of, is_capacities}
use Rattle.plan_weeklist.specs.declared.columns.Columns.{Columns}
use Rattle.plan_weeklist.specs.declared.dates.Dates.{Dates}
use Rattle.plan_weeklist.specs.declared.rows.Shortage as declared_shortage
use Rattle.plan_weeklist.specs.declared.rows.AbsenceRow as declared_absence
use Rattle.plan_weeklist.specs.declared.rows.DatedRow as declared_row
use Rattle.plan_weeklist.specs.declared.rows.WeekRows as declared
use Rattle.plan_weeklist.specs.Columns.{has_dates, is_absence, is_place}
use Rattle.plan_weeklist.specs.Dates.{cell_in, date_at, date_in, dates_read, number_in, number_or}
use Rattle.plan_weeklist.specs.Faults.{Fault, ◌>>=◌}

-- the absent amount of a resource
pub record Shortage : Type 0 where
  pub resource : List ℕ
  pub amount : ℕ

-- an absence: its line, its first instant, the instant behind it, and what is absent
pub record AbsenceRow : Type 0 where
  pub line : ℕ
  pub from : ℕ
  pub until : ℕ
  pub shortages : List Shortage

-- the row of an activity: its id, empty in a list without ids, and its dates
pub record DatedRow : Type 0 where
  pub id : List ℕ
  pub dates : Dates

pub record WeekRows : Type 0 where
  pub rows : List DatedRow
  pub absences : List AbsenceRow

-- the same, as the program keeps them
abbrev pub shortage_of : declared_shortage.Shortage → Shortage
shortage_of s = record { resource = s.resource.items; amount = s.amount }

abbrev pub absence_of : declared_absence.AbsenceRow → AbsenceRow
absence_of a = record { line = a.line; from = a.from; until = a.until; shortages = map shortage_of a.shortages.items }

abbrev pub dated_of : declared_row.DatedRow → DatedRow
dated_of r = record { id = r.id.items; dates = r.dates }

abbrev pub rows_of : List declared_row.DatedRow → List declared_absence.AbsenceRow → WeekRows
rows_of rows absences =
    record { rows = map dated_of rows; absences = map absence_of absences }

abbrev pub week_rows_of : declared.WeekRows → WeekRows
week_rows_of r = rows_of r.rows.items r.absences.items

-- ---- absences

-- column k of a list tells how much is absent: it is a resource, and has no dates
abbrev pub tells_absence : Columns → ℕ → Head → Bool
tells_absence columns k head = same_kind kinds.Resource head.column && not (has_dates columns k)

-- the absence of a resource, if a row has an amount for it
abbrev pub shortages_of : List ℕ → Option ℕ → List Shortage
shortages_of resource None = []
shortages_of resource (Some amount) = record { resource = resource; amount = amount } ∷ []

-- the absences so far, with that of a resource that parts of a cell name: its amount is the number
-- that plan_spreadsheet puts into the column of this resource
abbrev pub named_shortage : ℕ → List (List ℕ) → List Shortage → List ℕ → Result (List Shortage) Fault
named_shortage line parts before name =
    number_in line (trim (amounts_from name [] parts)) >>= λ amount. Ok (before ++ record { resource = name; amount = amount } ∷ [])

-- the absences so far, with those of resources that parts of a cell name
unfoldable pub named_from : ℕ → List (List ℕ) → List Shortage → List (List ℕ) → Result (List Shortage) Fault
named_from line parts before [] = Ok before
named_from line parts before (name ∷ names) = do
  more ← named_shortage line parts before name
  named_from line parts more names

-- the absences so far, with those of all resources that a cell names
abbrev pub named_read : ℕ → List Shortage → List ℕ → Result (List Shortage) Fault
named_read line before cell = named_from line (parts cell) before (names_in [] (parts cell))

-- the absences so far, with that of the resource of a column, if a cell has an amount
abbrev pub amount_read : ℕ → List Shortage → List ℕ → List ℕ → Result (List Shortage) Fault
amount_read line before resource cell =
    date_in line cell >>= λ amount. Ok (before ++ shortages_of resource amount)

-- the absences so far, with those that a row has in column k: of the resources that it names, or of
-- the one of its header
unfoldable pub shortage_read : Columns → Row → List Shortage → ℕ → Head → Result (List Shortage) Fault
shortage_read columns row before k head =
    if not (tells_absence columns k head) then Ok before
    else if is_place columns.names k then named_read row.line before (cell_of k row)
    else amount_read row.line before head.name (cell_of k row)

-- the absences in the columns from column k on, appended to the earlier ones
unfoldable pub shortages_from : Columns → Row → List Shortage → ℕ → List Head → Result (List Shortage) Fault
shortages_from columns row before k [] = Ok before
shortages_from columns row before k (head ∷ heads) = do
  more ← shortage_read columns row before k head
  shortages_from columns row more (k + 1) heads

-- an absence; without a first instant it lasts from 0 on
unfoldable pub absence_read : Columns → List Head → Row → Result AbsenceRow Fault
absence_read columns heads row = do
  from ← date_at columns.earliest row
  lasts ← number_in row.line (cell_in columns.durations row)
  shortages ← shortages_from columns row [] 0 heads
  Ok (record { line = row.line; from = number_or 0 from; until = number_or 0 from + lasts; shortages = shortages })

-- ---- all rows

-- rows of the week with one more activity, or one more absence
abbrev pub with_row : WeekRows → DatedRow → WeekRows
with_row read row = record read { rows = read.rows ++ row ∷ [] }

abbrev pub with_absence : WeekRows → AbsenceRow → WeekRows
with_absence read absence = record read { absences = read.absences ++ absence ∷ [] }

-- a row without content, and the row of the capacities, have no dates
abbrev pub is_passed : Columns → Row → Bool
is_passed columns row = is_blank_row row.cells || is_capacities columns.ids row

-- the row of an activity, with its dates
abbrev pub dated_read : Option ℕ → Columns → Row → Result DatedRow Fault
dated_read today columns row =
    dates_read today columns row >>= λ dates. Ok (record { id = cell_in columns.ids row; dates = dates })

-- a row adds nothing, an absence, or an activity
unfoldable pub row_read : Option ℕ → Columns → List Head → WeekRows → Row → Result WeekRows Fault
row_read today columns heads read row =
    if is_passed columns row then Ok read
    else if is_absence columns.ids row then (absence_read columns heads row >>= λ absence. Ok (with_absence read absence))
    else dated_read today columns row >>= λ dated. Ok (with_row read dated)

-- the contents of rows, added in order
unfoldable pub rows_from : Option ℕ → Columns → List Head → WeekRows → List Row → Result WeekRows Fault
rows_from today columns heads read [] = Ok read
rows_from today columns heads read (row ∷ rows) = do
  more ← row_read today columns heads read row
  rows_from today columns heads more rows

-- before any row
abbrev pub no_rows : WeekRows
no_rows = record { rows = []; absences = [] }
