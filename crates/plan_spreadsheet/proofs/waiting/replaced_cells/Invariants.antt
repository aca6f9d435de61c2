use Rattle.std.proofs.Common.{◌≡◌, [], map, drop}
use Rattle.plan_spreadsheet.specs.Waits.{replaced_from}
use Rattle.plan_spreadsheet.proofs.waiting.replaced_cells.Given as goal

-- the cells that are left, behind the copies, give all cells
abbrev pub invariant-loop-k : goal.invariant-loop-k
invariant-loop-k l =
    replaced_from l.place l.text (map (λ cell. cell.items) l.copies.items) l.k (map (λ cell. cell.items) (drop l.k l.cells))
    ≡ replaced_from l.place l.text [] 0 (map (λ cell. cell.items) l.cells)
