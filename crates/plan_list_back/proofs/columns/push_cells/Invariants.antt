use Rattle.std.proofs.Common.{◌≡◌, ◌++◌, map, take}
use Rattle.plan_list_back.proofs.columns.push_cells.Given as goal

-- the cells before, and those so far
abbrev pub invariant-loop-cell : goal.invariant-loop-cell
invariant-loop-cell l =
    map (λ cell. cell.items) l.all.items
    ≡ map (λ cell. cell.items) l.fn.all.items ++ map (λ cell. cell.items) (take l.cell-index l.cells)
