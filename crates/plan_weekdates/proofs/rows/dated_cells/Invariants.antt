use Rattle.std.proofs.Common.{map, take}
use Rattle.plan_weekdates.specs.DatedRows.{AreDatedCells}
use Rattle.plan_weekdates.proofs.rows.dated_cells.Given as goal

-- the new texts of the cells so far
abbrev pub invariant-loop-k : goal.invariant-loop-k
invariant-loop-k l =
    AreDatedCells l.calendar l.columns (map (λ cell. cell.items) (take l.k l.cells)) (map (λ cell. cell.items) l.made.items)
