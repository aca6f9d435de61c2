-- The errors of a list with dates.
use Rattle.plan_weekdates.specs.declared.fault.CellFault.{CellFault}
use Rattle.plan_weekdates.specs.declared.fault.DateError.{DateError}
use Rattle.plan_weekdates.specs.declared.fault.DateError.TheVariants as errors
use Rattle.plan_weekdates.specs.DatedCells.{Fails}
use Rattle.plan_weekdates.specs.DatedLists.{FailsOr, IsUnwritten}

-- an error of a cell is one of the list
pub cell_error : (refused : CellFault → Type 0) (e : DateError) → Fails refused e → FailsOr refused e
cell_error refused errors.Memory told = tt
cell_error refused errors.TooLong told = tt
cell_error refused (errors.Cell f) told = told

-- and so is an error of writing rows
pub unwritten : (refused : CellFault → Type 0) (e : DateError) → IsUnwritten e → FailsOr refused e
unwritten refused errors.Memory told = tt
unwritten refused errors.TooLong told = tt
unwritten refused (errors.Cell f) told = absurd told
