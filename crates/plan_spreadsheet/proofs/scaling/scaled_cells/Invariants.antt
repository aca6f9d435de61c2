use Rattle.std.proofs.Common.{◌≡◌, [], map, drop}
use Rattle.plan_table.specs.Header.{head_of}
use Rattle.plan_table.specs.Predecessors.{label_of}
use Rattle.plan_spreadsheet.specs.Scaling.{scaled_from}
use Rattle.plan_spreadsheet.proofs.scaling.scaled_cells.Given as goal

-- the cells that are left, behind the copies, give all cells
abbrev pub invariant-loop-k : goal.invariant-loop-k
invariant-loop-k l =
    scaled_from l.unit (map label_of l.labels) (map head_of l.heads) (map (λ cell. cell.items) l.all.items) l.k
    (map (λ cell. cell.items) (drop l.k l.cells))
    ≡ scaled_from l.unit (map label_of l.labels) (map head_of l.heads) [] 0 (map (λ cell. cell.items) l.cells)
