-- A file as a list with a week: each step from its bytes to its week.
use Rattle.std.specs.Prelude.{◌≡◌, ◌⊎◌, ℕ, List, Option, Ok}
use Rattle.plan_encoding.specs.Encodings.{utf8_of}
use Rattle.plan_spreadsheet.specs.declared.fault.SpreadsheetFault.{SpreadsheetFault}
use Rattle.plan_spreadsheet.specs.declared.list.PlainList.{PlainList}
use Rattle.plan_spreadsheet.specs.PlainLists as plain
use Rattle.plan_table.specs.declared.fault.ReadError.{ReadError}
use Rattle.plan_table.specs.declared.fault.ReadError.TheVariants as read
use Rattle.plan_table.specs.Listing.{table_read_with}
use Rattle.plan_table.specs.Overrides.{Override}
use Rattle.plan_table.specs.Refused.{IsRefusedWith}
use Rattle.plan_table.specs.Table.{Table}
use Rattle.plan_weeklist.specs.declared.fault.WeekError.{WeekError}
use Rattle.plan_weeklist.specs.declared.fault.WeekError.TheVariants as errors
use Rattle.plan_weeklist.specs.declared.list.WeekList.{WeekList}
use Rattle.plan_weeklist.specs.declared.listed.ListedWeek.{ListedWeek}
use Rattle.plan_weeklist.specs.declared.listed.ListFault.{ListFault}
use Rattle.plan_weeklist.specs.declared.listed.ListFault.TheVariants as faults
use Rattle.plan_weeklist.specs.ListedWeeks.{IsNoWeek, IsWeekOf}
use Rattle.plan_weeklist.specs.Lists.{IsNoWeekList, IsWeekList, text_of}
use Rattle.plan_weeklist.specs.Rows.{week_rows_of}

-- the errors of each step
abbrev pub fault_of_week : WeekError → ListFault
fault_of_week errors.Memory = faults.Memory
fault_of_week (errors.Fault f) = faults.Dates f

abbrev pub fault_of_table : ReadError → ListFault
fault_of_table read.Memory = faults.Memory
fault_of_table (read.Fault f) = faults.Table f

-- the text that plan_table reads: the plain list of the list without its dates
abbrev pub table_text : WeekList → PlainList → List ℕ → List ℕ
table_text list p bytes = plain.text_of p (text_of list bytes)

-- a list with dates, and its plain list
pub record AreLists (overrides : List Override) (today : Option ℕ) (bytes : List ℕ)
    (list : WeekList) (p : PlainList) : Type 0 where
  pub dates : IsWeekList overrides today (utf8_of bytes) list
  pub plain : plain.IsPlain overrides (text_of list bytes) p

-- the same, and the table of the plain list
pub record AreTables (overrides : List Override) (today : Option ℕ) (bytes : List ℕ)
    (list : WeekList) (p : PlainList) (t : Table) : Type 0 where
  pub lists : AreLists overrides today bytes list p
  pub table : table_read_with overrides (table_text list p bytes) ≡ Ok t

-- the table and the week of a file
abbrev pub IsListedWeek : List Override → Option ℕ → List ℕ → ListedWeek → Type 0
IsListedWeek overrides today bytes listed =
    (list : WeekList) × (p : PlainList) × AreTables overrides today bytes list p listed.table
    × IsWeekOf listed.table (week_rows_of list.rows) today listed.week

-- the first step that fails is that of the dates
abbrev pub FailsDates : List Override → Option ℕ → List ℕ → WeekError → Type 0
FailsDates overrides today bytes error =
    IsNoWeekList overrides today (utf8_of bytes) error
    ⊎ ((list : WeekList) × (p : PlainList) × (t : Table) × AreTables overrides today bytes list p t
    × IsNoWeek t (week_rows_of list.rows) error)

-- it is that of the plain list
abbrev pub FailsPlain : List Override → Option ℕ → List ℕ → SpreadsheetFault → Type 0
FailsPlain overrides today bytes fault =
    (list : WeekList) × IsWeekList overrides today (utf8_of bytes) list
    × plain.IsNoPlain overrides (text_of list bytes) fault

-- it is that of the table
abbrev pub FailsTable : List Override → Option ℕ → List ℕ → ReadError → Type 0
FailsTable overrides today bytes error =
    (list : WeekList) × (p : PlainList) × AreLists overrides today bytes list p
    × IsRefusedWith overrides (table_text list p bytes) error

-- the errors of a file that is no list with a week; running out of memory is always possible
abbrev pub IsNoListedWeek : List Override → Option ℕ → List ℕ → ListFault → Type 0
IsNoListedWeek overrides today bytes faults.Memory = Unit {0}
IsNoListedWeek overrides today bytes (faults.Dates f) =
    FailsDates overrides today bytes (errors.Fault f)
IsNoListedWeek overrides today bytes (faults.Spreadsheet f) = FailsPlain overrides today bytes f
IsNoListedWeek overrides today bytes (faults.Table f) =
    FailsTable overrides today bytes (read.Fault f)
