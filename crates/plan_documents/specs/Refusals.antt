-- The codes of refusals, and what their lines have behind them (docs/definitions.md, "Runs").
use Rattle.std.specs.Prelude.{ℕ, List, ◌++◌, codes}
use Rattle.std.specs.Fmt.{decimal}
use Rattle.plan_psplib.specs.declared.text.fault.FileCode.{FileCode}
use Rattle.plan_psplib.specs.declared.text.fault.FileCode.TheVariants as file
use Rattle.plan_psplib.specs.declared.text.fault.FileFault.{FileFault}
use Rattle.plan_table.specs.declared.fault.TableCode.{TableCode}
use Rattle.plan_table.specs.declared.fault.TableCode.TheVariants as table
use Rattle.plan_errors.specs.Parts.{spaced}
use Rattle.plan_errors.specs.declared.codes.Code.{Code}
use Rattle.plan_errors.specs.declared.codes.Code.TheVariants as code
use Rattle.plan_errors.specs.declared.context.About.{About}
use Rattle.plan_errors.specs.declared.context.About.TheVariants as subject

-- the code of a check that a file fails
abbrev pub file_code : FileCode → Code
file_code file.TooLong = code.TooLong
file_code file.NotText = code.NotText
file_code file.MissingHead = code.MissingHead
file_code file.Unsupported = code.Unsupported
file_code file.MissingSection = code.MissingSection
file_code file.BadNumber = code.BadNumber
file_code file.JobOrder = code.JobOrder
file_code file.Modes = code.Modes
file_code file.Count = code.Count
file_code file.Limit = code.Limit
file_code file.Double = code.Double
file_code file.Cycle = code.Cycle
file_code file.NoInstance = code.NoInstance
file_code file.BadMachine = code.BadMachine
file_code file.Memory = code.NoMemory

-- the place of an error in a file: its line, and the activities of a cycle
abbrev pub place_by : FileCode → ℕ → List ℕ → List ℕ
place_by file.Cycle line cycle =
    codes " line " ++ decimal line ++ (codes " cycle" ++ spaced cycle)
place_by _ line cycle = codes " line " ++ decimal line

abbrev pub place_of : FileFault → List ℕ
place_of fault = place_by fault.code fault.line fault.cycle.items

-- the code of a check that a list fails
abbrev pub table_code : TableCode → Code
table_code table.TooLong = code.LongTable
table_code table.NotText = code.NoTableText
table_code table.NoDuration = code.NoDurations
table_code table.ColumnTwice = code.ColumnTwice
table_code table.BadDuration = code.BadDuration
table_code table.BadId = code.BadId
table_code table.IdTwice = code.IdTwice
table_code table.NoSuchId = code.NoPredecessor
table_code table.BadNeed = code.BadNeed
table_code table.NoCapacity = code.NoCapacity
table_code table.Cycle = code.TableCycle
table_code table.Limit = code.TableLimit
table_code table.Cells = code.BadCells
table_code table.NoResource = code.NoListResource
table_code table.TooManySteps = code.ManySteps
table_code table.Successors = code.SuccessorColumn
table_code table.NeedAbove = code.HighNeed

-- the argument that the error of a list is about: the option with the capacities if a given
-- resource isn't in the list, or else the file
abbrev pub table_subject : TableCode → About
table_subject table.NoResource = subject.Capacity
table_subject _ = subject.List
