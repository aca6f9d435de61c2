use Rattle.std.proofs.Common.{◌≡◌, map, drop}
use Rattle.std.specs.List.{list_any}
use Rattle.plan_psplib.specs.Lines.{trim}
use Rattle.plan_table.specs.Cells.{same}
use Rattle.plan_list_back.proofs.times.is_in.Given as goal

-- the cell is among those that are left
abbrev pub invariant-loop-cell : goal.invariant-loop-cell
invariant-loop-cell l =
    list_any (λ cell. same (trim cell) l.id) (map (λ cell. cell.items) (drop l.cell-index l.cells))
    ≡ list_any (λ cell. same (trim cell) l.id) (map (λ cell. cell.items) l.cells)
