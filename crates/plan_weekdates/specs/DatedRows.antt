-- The rows of a list with dates.
use Rattle.std.specs.Prelude.{◌≡◌, ℕ, List, Option, None, slice_index_or}
use Rattle.plan_calendar.specs.WorkingDay.{Workdays}
use Rattle.plan_table.specs.Csv.{Row}
use Rattle.plan_weekdates.specs.declared.columns.DateColumn.{DateColumn}
use Rattle.plan_weekdates.specs.declared.fault.CellFault as declared
use Rattle.plan_weekdates.specs.DatedCells.{IsDatedCell, RefusesCell}
use Rattle.plan_weekdates.specs.Sequences.{Become, FirstFails}

-- the new text of the cell in column k
abbrev pub IsCellAt : Workdays → List (Option DateColumn) → ℕ → List ℕ → List ℕ → Type 0
IsCellAt calendar columns k cell made =
    IsDatedCell calendar (slice_index_or columns k None) cell made

-- the error of the cell in column k
abbrev pub RefusesCellAt : Workdays → List (Option DateColumn) → ℕ → declared.CellFault → ℕ
    → List ℕ → Type 0
RefusesCellAt calendar columns line f k cell =
    RefusesCell calendar line (slice_index_or columns k None) cell f

-- the new texts of cells
abbrev pub AreDatedCells : Workdays → List (Option DateColumn) → List (List ℕ) → List (List ℕ)
    → Type 0
AreDatedCells calendar columns cells made = Become (IsCellAt calendar columns) 0 cells made

-- the error of cells in a line is that of the first cell with an error
abbrev pub RefusesCells : Workdays → List (Option DateColumn) → ℕ → List (List ℕ)
    → declared.CellFault → Type 0
RefusesCells calendar columns line cells f =
    FirstFails (IsCellAt calendar columns) (RefusesCellAt calendar columns line f) 0 cells

-- a row with its new texts: it keeps its line
pub record IsDatedRow (calendar : Workdays) (columns : List (Option DateColumn))
    (row made : Row) : Type 0 where
  pub line : made.line ≡ row.line
  pub cells : AreDatedCells calendar columns row.cells made.cells

-- the error of a row is that of its cells
abbrev pub RefusesRow : Workdays → List (Option DateColumn) → Row → declared.CellFault → Type 0
RefusesRow calendar columns row f = RefusesCells calendar columns row.line row.cells f

-- the rows with their new texts
abbrev pub AreDatedRows : Workdays → List (Option DateColumn) → List Row → List Row → Type 0
AreDatedRows calendar columns rows made = Become (λ k. IsDatedRow calendar columns) 0 rows made

-- the error of rows is that of the first row with an error
abbrev pub RefusesRows : Workdays → List (Option DateColumn) → List Row → declared.CellFault
    → Type 0
RefusesRows calendar columns rows f =
    FirstFails (λ k. IsDatedRow calendar columns) (λ k row. RefusesRow calendar columns row f)
    0 rows
