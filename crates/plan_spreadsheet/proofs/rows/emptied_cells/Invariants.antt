use Rattle.std.proofs.Common.{◌≡◌, [], map, drop}
use Rattle.plan_spreadsheet.specs.Rows.{emptied_from}
use Rattle.plan_spreadsheet.proofs.rows.emptied_cells.Given as goal

-- the cells that are left, behind the copies, give all cells
abbrev pub invariant-loop-k : goal.invariant-loop-k
invariant-loop-k l =
    emptied_from l.places (map (λ cell. cell.items) l.copies.items) l.k (map (λ cell. cell.items) (drop l.k l.cells))
    ≡ emptied_from l.places [] 0 (map (λ cell. cell.items) l.cells)
