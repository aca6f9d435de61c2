-- A list with dates, and the list with instants that is read in its place.
use Rattle.std.specs.Prelude.{◌≡◌, ℕ, List, [], ◌∷◌, Option, Some, None, Result, Ok, Err, Vec}
use Rattle.std.specs.declared.alloc.Global.{Global}
use Rattle.std.specs.Option.{option_map_or}
use Rattle.plan_calendar.specs.WorkingDay.{Workdays}
use Rattle.plan_encoding.specs.Encodings.{utf8_of}
use Rattle.plan_spreadsheet.specs.Rows.{Spells, filled}
use Rattle.plan_table.specs.declared.kinds.ListKind.{ListKind}
use Rattle.plan_table.specs.declared.kinds.ListKind.TheVariants as kinds
use Rattle.plan_table.specs.Csv.{Row}
use Rattle.plan_table.specs.Header.{Head, heads_at}
use Rattle.plan_table.specs.Kinds.{IsKind}
use Rattle.plan_table.specs.Listing.{rows_read}
use Rattle.plan_table.specs.Overrides.{Override}
use Rattle.plan_table.specs.Reading as tables
use Rattle.plan_weekdates.specs.declared.columns.DateColumn.{DateColumn}
use Rattle.plan_weekdates.specs.declared.fault.CellFault as cells
use Rattle.plan_weekdates.specs.declared.fault.DateError.{DateError}
use Rattle.plan_weekdates.specs.declared.fault.DateError.TheVariants as errors
use Rattle.plan_weekdates.specs.declared.list.DatedList.{DatedList}
use Rattle.plan_weekdates.specs.DateColumns.{columns_of}
use Rattle.plan_weekdates.specs.DatedRows.{AreDatedRows, RefusesRows}

-- the text that is read in place of a file
abbrev pub text_of : DatedList → List ℕ → List ℕ
text_of list bytes = option_map_or (λ text. text.items) list.text bytes

-- a text is read as a header and rows whose dates have become instants, in these columns
pub record SpellsDated (calendar : Workdays) (columns : List (Option DateColumn)) (first : Row)
    (rows : List Row) (text : List ℕ) : Type 0 where
  pub made : List Row
  pub dated : AreDatedRows calendar columns rows made
  pub spelled : Spells text (first ∷ made)

-- ---- what becomes of a list

-- there is such a text
abbrev pub IsDatedText : Workdays → List (Option DateColumn) → Row → List Row
    → Option (Vec ℕ Global) → Type 0
IsDatedText calendar columns first rows None = ⊥
IsDatedText calendar columns first rows (Some text) =
    SpellsDated calendar columns first rows text.items

-- rows under a header; if it can't be read, the list stays
abbrev pub IsDatedUnder : Workdays → List Override → Row → List Row
    → Result (List Head) tables.Fault → Option (Vec ℕ Global) → Type 0
IsDatedUnder calendar overrides first rows (Err fault) text = text ≡ None
IsDatedUnder calendar overrides first rows (Ok heads) text =
    IsDatedText calendar (columns_of overrides rows heads) first rows text

-- rows with content; the first one is the header
abbrev pub IsDatedBehind : Workdays → List Override → List Row → Option (Vec ℕ Global) → Type 0
IsDatedBehind calendar overrides [] text = text ≡ None
IsDatedBehind calendar overrides (first ∷ rows) text =
    IsDatedUnder calendar overrides first rows (heads_at first.line [] first.cells) text

abbrev pub IsDatedBy : Workdays → List Override → Result (List Row) tables.Fault
    → Option (Vec ℕ Global) → Type 0
IsDatedBy calendar overrides (Err fault) text = text ≡ None
IsDatedBy calendar overrides (Ok rows) text = IsDatedBehind calendar overrides (filled rows) text

-- a text of a kind; only a list of activities has dates
abbrev pub IsDatedOf : Workdays → List Override → List ℕ → Option ListKind
    → Option (Vec ℕ Global) → Type 0
IsDatedOf calendar overrides text None made = made ≡ None
IsDatedOf calendar overrides text (Some kinds.Orders) made = made ≡ None
IsDatedOf calendar overrides text (Some kinds.Activities) made =
    IsDatedBy calendar overrides (rows_read text) made

-- a text in UTF-8
abbrev pub IsDated : Workdays → List Override → List ℕ → Option (Vec ℕ Global) → Type 0
IsDated calendar overrides text made =
    (kind : Option ListKind) × IsKind text kind × IsDatedOf calendar overrides text kind made

-- a file
abbrev pub IsDatedList : Workdays → List Override → List ℕ → DatedList → Type 0
IsDatedList calendar overrides bytes list = IsDated calendar overrides (utf8_of bytes) list.text

-- ---- errors

-- the error of writing rows: out of memory, or they are too long
abbrev pub IsUnwritten : DateError → Type 0
IsUnwritten errors.Memory = Unit {0}
IsUnwritten errors.TooLong = Unit {0}
IsUnwritten (errors.Cell f) = ⊥

-- an error is that of a cell, or of writing rows
abbrev pub FailsOr : (cells.CellFault → Type 0) → DateError → Type 0
FailsOr refused errors.Memory = Unit {0}
FailsOr refused errors.TooLong = Unit {0}
FailsOr refused (errors.Cell f) = refused f

-- the error of rows under a header; if it can't be read, there is none
abbrev pub RefusesUnder : Workdays → List Override → List Row → Result (List Head) tables.Fault
    → cells.CellFault → Type 0
RefusesUnder calendar overrides rows (Err fault) f = ⊥
RefusesUnder calendar overrides rows (Ok heads) f =
    RefusesRows calendar (columns_of overrides rows heads) rows f

-- the error of rows with content; the first one is the header
abbrev pub RefusesBehind : Workdays → List Override → List Row → cells.CellFault → Type 0
RefusesBehind calendar overrides [] f = ⊥
RefusesBehind calendar overrides (first ∷ rows) f =
    RefusesUnder calendar overrides rows (heads_at first.line [] first.cells) f

abbrev pub RefusesBy : Workdays → List Override → Result (List Row) tables.Fault
    → cells.CellFault → Type 0
RefusesBy calendar overrides (Err fault) f = ⊥
RefusesBy calendar overrides (Ok rows) f = RefusesBehind calendar overrides (filled rows) f

-- the error of a text in UTF-8
abbrev pub Refuses : Workdays → List Override → List ℕ → DateError → Type 0
Refuses calendar overrides text error =
    FailsOr (RefusesBy calendar overrides (rows_read text)) error

-- the error of a file
abbrev pub RefusesList : Workdays → List Override → List ℕ → DateError → Type 0
RefusesList calendar overrides bytes error = Refuses calendar overrides (utf8_of bytes) error
