-- The cells of a list with dates. Blanks at the ends of a cell don't matter.
use Rattle.std.specs.Prelude.{◌≡◌, ◌⊎◌, ℕ, ◌==◌, ◌&&◌, Bool, true, false, List, Option, Some, None, slice_index_or}
use Rattle.std.specs.Fmt.{decimal}
use Rattle.jiff_core.specs.declared.civil.date.Date.{Date}
use Rattle.plan_calendar.specs.CalendarText.{HasNoStart, IsStartText}
use Rattle.plan_calendar.specs.WorkingDay.{Workdays}
use Rattle.plan_psplib.specs.Lines.{trim}
use Rattle.plan_psplib.specs.Numbers.{is_digit}
use Rattle.plan_weekdates.specs.declared.columns.DateColumn.{DateColumn}
use Rattle.plan_weekdates.specs.declared.columns.DateColumn.TheVariants as columns
use Rattle.plan_weekdates.specs.declared.fault.CellCode.{CellCode}
use Rattle.plan_weekdates.specs.declared.fault.CellCode.TheVariants as code
use Rattle.plan_weekdates.specs.declared.fault.CellFault as declared
use Rattle.plan_weekdates.specs.declared.fault.DateError.{DateError}
use Rattle.plan_weekdates.specs.declared.fault.DateError.TheVariants as errors
use Rattle.plan_weekdates.specs.Instants.{IsTooEarly, instant_before, instant_behind}

-- a text begins like a date: with four digits and a hyphen
abbrev pub begins_like_date : List ℕ → Bool
begins_like_date text =
    is_digit (slice_index_or text 0 0) && is_digit (slice_index_or text 1 0)
    && is_digit (slice_index_or text 2 0) && is_digit (slice_index_or text 3 0)
    && (slice_index_or text 4 0 == 45)

-- the instant of a date in a column: what ends on a date ends with that day
abbrev pub instant_in : Workdays → DateColumn → Date → ℕ
instant_in calendar columns.Earliest date = instant_before calendar date
instant_in calendar columns.Fixed date = instant_before calendar date
instant_in calendar columns.Begun date = instant_before calendar date
instant_in calendar columns.Done date = instant_behind calendar date
instant_in calendar columns.Due date = instant_behind calendar date

-- a column tells what has happened
abbrev pub tells_past : DateColumn → Bool
tells_past columns.Earliest = false
tells_past columns.Fixed = false
tells_past columns.Begun = true
tells_past columns.Done = true
tells_past columns.Due = false

-- nothing has happened before the first date of a calendar
abbrev pub IsRefusedDate : Workdays → DateColumn → Date → Type 0
IsRefusedDate calendar column date = (tells_past column ≡ true) × IsTooEarly calendar date

-- a text is a date that is allowed in a column
abbrev pub IsAllowed : Workdays → DateColumn → List ℕ → Date → Type 0
IsAllowed calendar column text date =
    IsStartText text date × (IsRefusedDate calendar column date → ⊥)

-- a text is the instant of a date in decimal digits
abbrev pub IsInstant : Workdays → DateColumn → List ℕ → List ℕ → Type 0
IsInstant calendar column text made =
    (date : Date) × IsAllowed calendar column text date
    × (made ≡ decimal (instant_in calendar column date))

-- a cell in a column of dates: a date becomes its instant; another text stays
abbrev pub IsDatedIn : Workdays → DateColumn → List ℕ → List ℕ → Type 0
IsDatedIn calendar column cell made =
    ((begins_like_date (trim cell) ≡ false) × (made ≡ cell))
    ⊎ ((begins_like_date (trim cell) ≡ true) × IsInstant calendar column (trim cell) made)

-- the new text of a cell; in other columns it stays
abbrev pub IsDatedCell : Workdays → Option DateColumn → List ℕ → List ℕ → Type 0
IsDatedCell calendar None cell made = made ≡ cell
IsDatedCell calendar (Some column) cell made = IsDatedIn calendar column cell made

-- the error of a text that begins like a date: it is none, or one before the first date of the
-- calendar
abbrev pub RefusesText : Workdays → DateColumn → List ℕ → CellCode → Type 0
RefusesText calendar column text code.NoDate = HasNoStart text
RefusesText calendar column text code.TooEarly =
    (date : Date) × IsStartText text date × IsRefusedDate calendar column date

-- an error of a cell has this code, this line, this column and this text
pub record IsFaultOf (code : CellCode) (line : ℕ) (column : DateColumn) (word : List ℕ)
    (f : declared.CellFault) : Type 0 where
  pub code_is : f.code ≡ code
  pub line_is : f.line ≡ line
  pub column_is : f.column ≡ column
  pub word_is : f.word.items ≡ word

-- the error of a cell in a column of dates, in a line
pub record RefusesIn (calendar : Workdays) (line : ℕ) (column : DateColumn) (cell : List ℕ)
    (f : declared.CellFault) : Type 0 where
  pub code : CellCode
  pub begins : begins_like_date (trim cell) ≡ true
  pub refused : RefusesText calendar column (trim cell) code
  pub fault : IsFaultOf code line column (trim cell) f

-- the error of a cell; other columns have none
abbrev pub RefusesCell : Workdays → ℕ → Option DateColumn → List ℕ → declared.CellFault → Type 0
RefusesCell calendar line None cell f = ⊥
RefusesCell calendar line (Some column) cell f = RefusesIn calendar line column cell f

-- an error is that of a cell; out of memory may come at any time
abbrev pub Fails : (declared.CellFault → Type 0) → DateError → Type 0
Fails refused errors.Memory = Unit {0}
Fails refused errors.TooLong = ⊥
Fails refused (errors.Cell f) = refused f
