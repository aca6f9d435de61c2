use Rattle.std.proofs.Common.{map, take}
use Rattle.plan_table.specs.Csv.{row_of}
use Rattle.plan_weekdates.specs.DatedRows.{AreDatedRows}
use Rattle.plan_weekdates.proofs.rows.dated_rows.Given as goal

-- the rows so far with their new texts
abbrev pub invariant-loop-row : goal.invariant-loop-row
invariant-loop-row l =
    AreDatedRows l.calendar l.columns (map row_of (take l.row-index l.rows)) (map row_of l.made.items)
