use Rattle.std.proofs.Common.{◌≡◌, map, drop}
use Rattle.plan_weeklist.proofs.text.same_cells.Given as goal

-- all cells are the same if those that are left are
abbrev pub invariant-loop-cell : goal.invariant-loop-cell
invariant-loop-cell l =
    map (λ cell. cell.items) (drop l.cell-index l.a) ≡ map (λ cell. cell.items) l.rest
    → map (λ cell. cell.items) l.a ≡ map (λ cell. cell.items) l.b
