-- The errors of calendar dates in a list, as lines of text.
use Rattle.std.specs.Prelude.{◌≡◌, ℕ, List, [], codes}
use Rattle.plan_calendar.specs.WorkingDay.{Workdays}
use Rattle.plan_weekdates.specs.DatedLists.{RefusesList}
use Rattle.plan_weekdates.specs.declared.fault.CellCode.{CellCode}
use Rattle.plan_weekdates.specs.declared.fault.CellCode.TheVariants as cell
use Rattle.plan_weekdates.specs.declared.fault.CellFault.{CellFault}
use Rattle.plan_weekdates.specs.declared.fault.DateError.{DateError}
use Rattle.plan_weekdates.specs.declared.fault.DateError.TheVariants as errors
use Rattle.plan_weekfile.specs.Lines.{TellsDates}
use Rattle.plan_weeklist.specs.Faults.{Fault}
use Rattle.plan_weeklist.specs.declared.fault.WeekCode.{WeekCode}
use Rattle.plan_weeklist.specs.declared.fault.WeekCode.TheVariants as week

-- the error of a cell with a date: it is no instant, or it contradicts the calendar
abbrev pub code_of_cell : CellCode → WeekCode
code_of_cell cell.NoDate = week.BadNumber
code_of_cell cell.TooEarly = week.Contradiction

abbrev pub fault_of_cell : CellFault → Fault
fault_of_cell f = record { code = code_of_cell f.code; line = f.line; word = f.word.items }

abbrev pub TellsDateError : DateError → List ℕ → Type 0
TellsDateError errors.Memory line = ⊥
TellsDateError errors.TooLong line = line ≡ codes "T1 too long"
TellsDateError (errors.Cell f) line = TellsDates (fault_of_cell f) line

-- a line gives the first error of the dates in a list
abbrev pub TellsNoInstants : Workdays → List ℕ → List ℕ → Type 0
TellsNoInstants calendar text line =
    (error : DateError) × RefusesList calendar [] text error × TellsDateError error line
