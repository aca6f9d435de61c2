-- Cells and rows that become others, one more of them, and errors of cells.
use Rattle.std.proofs.Common.{◌≡◌, ℕ, ◌+◌, ◌<◌, ◌⊎◌, inr, true, false, ap, ◌∙◌, List, [], ◌∷◌, ◌++◌, length, map, take, get_or, slice_index_or, sym, subst}
use Rattle.std.specs.Prelude.{Vec, Option, None}
use Rattle.std.specs.Fmt.{decimal}
use Rattle.std.specs.declared.alloc.Global.{Global}
use Rattle.jiff_core.specs.declared.civil.date.Date.{Date}
use Rattle.plan_calendar.specs.WorkingDay.{Workdays}
use Rattle.plan_psplib.specs.Lines.{trim}
use Rattle.plan_table.specs.Csv.{row_of}
use Rattle.plan_table.specs.declared.records.Row.{Row}
use Rattle.plan_weekdates.specs.declared.columns.DateColumn.{DateColumn}
use Rattle.plan_weekdates.specs.declared.fault.CellCode.{CellCode}
use Rattle.plan_weekdates.specs.declared.fault.DateError.{DateError}
use Rattle.plan_weekdates.specs.declared.fault.DateError.TheVariants as errors
use Rattle.plan_weekdates.specs.DatedCells.{Fails, IsAllowed, IsDatedCell, IsDatedIn, IsFaultOf, IsInstant, RefusesCell, RefusesIn, RefusesText, begins_like_date, instant_in}
use Rattle.plan_weekdates.specs.DatedRows.{AreDatedCells, AreDatedRows, IsCellAt, IsDatedRow, RefusesCellAt, RefusesCells, RefusesRow, RefusesRows}
use Rattle.plan_weekdates.proofs.SequenceLemmas.{fails_at, more}

abbrev items : Vec ℕ Global → List ℕ
items cell = cell.items

-- an error of a text is that of its cell
pub refused_in : (calendar : Workdays) (line : ℕ) (column : DateColumn) (cell word : List ℕ) (code : CellCode) (e : DateError) → word ≡ trim cell
    → begins_like_date word ≡ true → RefusesText calendar column word code → Fails (IsFaultOf code line column word) e
    → Fails (RefusesIn calendar line column cell) e
refused_in calendar line column cell word code errors.Memory same begins refused told = tt
refused_in calendar line column cell word code errors.TooLong same begins refused told = told
refused_in calendar line column cell word code (errors.Cell f) same begins refused told = record {
  code = code;
  begins = subst (λ w. begins_like_date w ≡ true) same begins;
  refused = subst (λ w. RefusesText calendar column w code) same refused;
  fault = subst (λ w. IsFaultOf code line column w f) same told;
}

-- the digits of the instant of a date are what its cell becomes
pub instant_made : (calendar : Workdays) (column : DateColumn) (cell word : List ℕ) (date : Date) (number : ℕ) (made : List ℕ) → word ≡ trim cell
    → begins_like_date word ≡ true → IsAllowed calendar column word date → number ≡ instant_in calendar column date → made ≡ decimal number
    → IsDatedIn calendar column cell made
instant_made calendar column cell word date number made same begins allowed is digits =
    subst (λ w. ((begins_like_date w ≡ false) × (made ≡ cell)) ⊎ ((begins_like_date w ≡ true) × IsInstant calendar column w made)) same
    (inr (begins, (date, allowed, digits ∙ ap decimal is)))

-- a cell more
pub cell_more : (calendar : Workdays) (columns : List (Option DateColumn)) (cells made pushed : List (Vec ℕ Global)) (k : ℕ) (item new : Vec ℕ Global)
    (column : Option DateColumn) (text : List ℕ) → k < length cells → item ≡ get_or cells k item
    → AreDatedCells calendar columns (map (λ cell. cell.items) (take k cells)) (map (λ cell. cell.items) made)
    → column ≡ slice_index_or columns k None → text ≡ item.items → IsDatedCell calendar column text new.items → pushed ≡ made ++ new ∷ []
    → AreDatedCells calendar columns (map (λ cell. cell.items) (take (k + 1) cells)) (map (λ cell. cell.items) pushed)
cell_more calendar columns cells made pushed k item new column text inside is done at same dated all =
    let here = subst (λ o. IsDatedCell calendar o item.items new.items) at (subst (λ t. IsDatedCell calendar column t new.items) same dated) in
    subst (λ v. AreDatedCells calendar columns (map (λ cell. cell.items) (take (k + 1) cells)) (map (λ cell. cell.items) v)) (sym all)
    (more (IsCellAt calendar columns) items items cells made k item new inside is done here)

-- an error of a cell is that of the cells
pub cell_fails : (calendar : Workdays) (columns : List (Option DateColumn)) (line : ℕ) (cells made : List (Vec ℕ Global)) (k : ℕ) (item : Vec ℕ Global)
    (column : Option DateColumn) (text : List ℕ) (e : DateError) → k < length cells → item ≡ get_or cells k item
    → AreDatedCells calendar columns (map (λ cell. cell.items) (take k cells)) (map (λ cell. cell.items) made)
    → column ≡ slice_index_or columns k None → text ≡ item.items → Fails (RefusesCell calendar line column text) e
    → Fails (RefusesCells calendar columns line (map (λ cell. cell.items) cells)) e
cell_fails calendar columns line cells made k item column text errors.Memory inside is done at same told = tt
cell_fails calendar columns line cells made k item column text errors.TooLong inside is done at same told = told
cell_fails calendar columns line cells made k item column text (errors.Cell f) inside is done at same told =
    let here = subst (λ o. RefusesCell calendar line o item.items f) at (subst (λ t. RefusesCell calendar line column t f) same told) in
    fails_at (IsCellAt calendar columns) (RefusesCellAt calendar columns line f) items items cells made k item inside is done here

-- a row more
pub row_more : (calendar : Workdays) (columns : List (Option DateColumn)) (rows made pushed : List Row) (k : ℕ) (item new : Row) → k < length rows → item ≡ get_or rows k item
    → AreDatedRows calendar columns (map row_of (take k rows)) (map row_of made) → IsDatedRow calendar columns (row_of item) (row_of new) → pushed ≡ made ++ new ∷ []
    → AreDatedRows calendar columns (map row_of (take (k + 1) rows)) (map row_of pushed)
row_more calendar columns rows made pushed k item new inside is done dated all =
    subst (λ v. AreDatedRows calendar columns (map row_of (take (k + 1) rows)) (map row_of v)) (sym all)
    (more (λ n. IsDatedRow calendar columns) row_of row_of rows made k item new inside is done dated)

-- an error of a row is that of the rows
pub row_fails : (calendar : Workdays) (columns : List (Option DateColumn)) (rows made : List Row) (k : ℕ) (item : Row) (e : DateError) → k < length rows → item ≡ get_or rows k item
    → AreDatedRows calendar columns (map row_of (take k rows)) (map row_of made) → Fails (RefusesRow calendar columns (row_of item)) e
    → Fails (RefusesRows calendar columns (map row_of rows)) e
row_fails calendar columns rows made k item errors.Memory inside is done told = tt
row_fails calendar columns rows made k item errors.TooLong inside is done told = told
row_fails calendar columns rows made k item (errors.Cell f) inside is done told =
    fails_at (λ n. IsDatedRow calendar columns) (λ n row. RefusesRow calendar columns row f) row_of row_of rows made k item inside is done told
