use Rattle.std.proofs.Common.{◌≡◌, map, drop}
use Rattle.plan_spreadsheet.specs.Rows.{same_cells}
use Rattle.plan_spreadsheet.proofs.rows.same_cells.Given as goal

-- the cells are the same if those that are left are
abbrev pub invariant-loop-cell : goal.invariant-loop-cell
invariant-loop-cell l =
    same_cells (map (λ cell. cell.items) (drop l.cell-index l.a)) (map (λ cell. cell.items) l.rest)
    ≡ same_cells (map (λ cell. cell.items) l.a) (map (λ cell. cell.items) l.b)
