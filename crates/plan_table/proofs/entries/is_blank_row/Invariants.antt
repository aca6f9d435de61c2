use Rattle.std.proofs.Common.{◌≡◌, map, drop}
use Rattle.plan_table.specs.Entries.{is_blank_row}
use Rattle.plan_table.proofs.entries.is_blank_row.Given as goal

-- nothing stands in the row if nothing stands in the cells that are left
abbrev pub invariant-loop-cell : goal.invariant-loop-cell
invariant-loop-cell l = is_blank_row (map (λ cell. cell.items) (drop l.cell-index l.cells)) ≡ is_blank_row (map (λ cell. cell.items) l.cells)
