use Rattle.std.proofs.Common.{◌≡◌, map, drop}
use Rattle.plan_list_back.specs.Texts.{cells_from}
use Rattle.plan_list_back.proofs.text.push_cells.Given as goal

-- the cells that are left, behind the text so far, give all cells
abbrev pub invariant-loop-k : goal.invariant-loop-k
invariant-loop-k l =
    cells_from l.separator l.text.items l.k (map (λ cell. cell.items) (drop l.k l.cells))
    ≡ cells_from l.separator l.fn.text.items 0 (map (λ cell. cell.items) l.cells)
