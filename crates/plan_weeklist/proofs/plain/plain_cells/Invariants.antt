use Rattle.std.proofs.Common.{◌≡◌, [], map, drop}
use Rattle.plan_weeklist.specs.PlainRows.{plain_cells}
use Rattle.plan_weeklist.proofs.plain.plain_cells.Given as goal

-- the cells that are left, behind the plain ones, give all cells
abbrev pub invariant-loop-k : goal.invariant-loop-k
invariant-loop-k l =
    plain_cells l.columns l.absent (map (λ cell. cell.items) l.plain.items) l.k (map (λ cell. cell.items) (drop l.k l.cells))
    ≡ plain_cells l.columns l.absent [] 0 (map (λ cell. cell.items) l.cells)
