use Rattle.std.proofs.Common.{◌≡◌, map, take}
use Rattle.plan_table.specs.Csv.{row_of}
use Rattle.plan_table.specs.Header.{head_of}
use Rattle.plan_table.specs.Predecessors.{label_of}
use Rattle.plan_spreadsheet.specs.Scaling.{scaled_row}
use Rattle.plan_spreadsheet.proofs.scaling.scaled_rows.Given as goal

-- the rows so far
abbrev pub invariant-loop-row : goal.invariant-loop-row
invariant-loop-row l =
    map row_of l.all.items
    ≡ map (scaled_row l.unit (map label_of l.labels) (map head_of l.heads)) (map row_of (take l.row-index l.rows))
