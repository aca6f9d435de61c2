-- A list with dates: its plain list, and its rows.
use Rattle.std.specs.Prelude.{◌≡◌, ◌⊎◌, ℕ, if◌then◌else◌, List, [], ◌∷◌, Option, Some, None, Result, Ok, Err, Vec, map}
use Rattle.std.specs.Option.{option_map_or}
use Rattle.std.specs.declared.alloc.Global.{Global}
use Rattle.plan_table.specs.declared.kinds.ListKind.{ListKind}
use Rattle.plan_table.specs.declared.kinds.ListKind.TheVariants as kinds
use Rattle.plan_table.specs.Csv.{Row}
use Rattle.plan_table.specs.Entries.{filled_from}
use Rattle.plan_table.specs.Header.{Head, heads_at}
use Rattle.plan_table.specs.Kinds.{IsKind}
use Rattle.plan_table.specs.Listing.{rows_read}
use Rattle.plan_table.specs.Overrides.{Override}
use Rattle.plan_table.specs.Reading as tables
use Rattle.plan_table.specs.Settlement.{ids_place, settled}
use Rattle.plan_weeklist.specs.declared.fault.WeekCode.TheVariants as code
use Rattle.plan_weeklist.specs.declared.fault.WeekError.{WeekError}
use Rattle.plan_weeklist.specs.declared.fault.WeekError.TheVariants as errors
use Rattle.plan_weeklist.specs.declared.columns.Columns.{Columns}
use Rattle.plan_weeklist.specs.declared.list.WeekList as declared
use Rattle.plan_weeklist.specs.Columns.{columns_of}
use Rattle.plan_weeklist.specs.Faults.{Fault, fault_of}
use Rattle.plan_weeklist.specs.PlainRows.{has_no_dates, plain_row}
use Rattle.plan_weeklist.specs.Rows.{WeekRows, no_rows, rows_from, week_rows_of}

-- the columns of dates of a list: the columns of its header, and the rows behind it
abbrev pub list_columns : List Override → List Row → List Head → Columns
list_columns overrides rows heads =
    columns_of (record { overrides = overrides; rows = rows; place = ids_place overrides heads })
    (settled overrides rows heads)

-- ---- the rows of the week

-- the rows behind a header; if it can't be read, the error is that of plan_table
abbrev pub rows_under : List Override → Option ℕ → List Row → Result (List Head) tables.Fault → Result WeekRows Fault
rows_under overrides today rows (Err fault) = Ok no_rows
rows_under overrides today rows (Ok heads) =
    rows_from today (list_columns overrides rows heads) (settled overrides rows heads) no_rows rows

-- the first row is the header
abbrev pub rows_behind : List Override → Option ℕ → List Row → Result WeekRows Fault
rows_behind overrides today [] = Ok no_rows
rows_behind overrides today (first ∷ rows) =
    rows_under overrides today rows (heads_at first.line [] first.cells)

-- the first row with content is the header
abbrev pub rows_in : List Override → Option ℕ → Result (List Row) tables.Fault → Result WeekRows Fault
rows_in overrides today (Err fault) = Ok no_rows
rows_in overrides today (Ok rows) = rows_behind overrides today (filled_from rows)

-- ---- the plain list

-- the rows of the plain list, if a list has dates; otherwise it is the plain list itself
abbrev pub plain_by : Columns → List Row → Option (List Row)
plain_by columns all = if has_no_dates columns all then None else Some (map (plain_row columns) all)

abbrev pub plain_under : List Override → List Row → List Row → Result (List Head) tables.Fault → Option (List Row)
plain_under overrides all rows (Err fault) = None
plain_under overrides all rows (Ok heads) = plain_by (list_columns overrides rows heads) all

abbrev pub plain_behind : List Override → List Row → List Row → Option (List Row)
plain_behind overrides all [] = None
plain_behind overrides all (first ∷ rows) = plain_under overrides all rows (heads_at first.line [] first.cells)

abbrev pub plain_in : List Override → Result (List Row) tables.Fault → Option (List Row)
plain_in overrides (Err fault) = None
plain_in overrides (Ok rows) = plain_behind overrides rows (filled_from rows)

-- a text is read as these rows, if there are any
abbrev pub IsPlainText : Option (List Row) → Option (Vec ℕ Global) → Type 0
IsPlainText None plain = plain ≡ None
IsPlainText (Some rows) None = ⊥
IsPlainText (Some rows) (Some text) = rows_read text.items ≡ Ok rows

-- ---- what a list says

-- the rows of the week, and the plain list
pub record IsListOf (read : Result WeekRows Fault) (plain : Option (List Row)) (list : declared.WeekList) : Type 0 where
  pub rows : read ≡ Ok (week_rows_of list.rows)
  pub text : IsPlainText plain list.plain

-- the contents of a list of activities: dates and absences
abbrev pub IsActivities : List Override → Option ℕ → Result (List Row) tables.Fault → declared.WeekList → Type 0
IsActivities overrides today rows list = IsListOf (rows_in overrides today rows) (plain_in overrides rows) list

-- the dates and absences of a text of a kind; only a list of activities has any
abbrev pub IsOfKind : List Override → Option ℕ → List ℕ → Option ListKind → declared.WeekList → Type 0
IsOfKind overrides today text None list = IsListOf (Ok no_rows) None list
IsOfKind overrides today text (Some kinds.Orders) list = IsListOf (Ok no_rows) None list
IsOfKind overrides today text (Some kinds.Activities) list = IsActivities overrides today (rows_read text) list

-- the dates and absences of a text in UTF-8
abbrev pub IsWeekList : List Override → Option ℕ → List ℕ → declared.WeekList → Type 0
IsWeekList overrides today text list =
    (kind : Option ListKind) × IsKind text kind × IsOfKind overrides today text kind list

-- the text that is read in place of another one
abbrev pub text_of : declared.WeekList → List ℕ → List ℕ
text_of list text = option_map_or (λ plain. plain.items) list.plain text

-- ---- errors

-- the plain list is too long
abbrev pub too_long : Fault
too_long = record { code = code.TooLong; line = 0; word = [] }

-- an error of writing the plain list; out of memory may come at any time
abbrev pub IsWant : WeekError → Type 0
IsWant errors.Memory = Unit {0}
IsWant (errors.Fault f) = fault_of f ≡ too_long

-- an error of a list: the first check that its dates fail, or else its plain list is too long
abbrev pub IsNoListOf : Result WeekRows Fault → WeekError → Type 0
IsNoListOf read errors.Memory = Unit {0}
IsNoListOf read (errors.Fault f) = (read ≡ Err (fault_of f)) ⊎ (fault_of f ≡ too_long)

-- an error of a text
abbrev pub IsNoWeekList : List Override → Option ℕ → List ℕ → WeekError → Type 0
IsNoWeekList overrides today text error = IsNoListOf (rows_in overrides today (rows_read text)) error
