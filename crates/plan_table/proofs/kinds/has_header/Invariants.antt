use Rattle.std.proofs.Common.{◌≡◌, map, drop}
use Rattle.plan_table.specs.Kinds.{has_header}
use Rattle.plan_table.proofs.kinds.has_header.Given as goal

-- a cell is the header if one of those that are left is it
abbrev pub invariant-loop-cell : goal.invariant-loop-cell
invariant-loop-cell l = has_header l.key (map (λ cell. cell.items) (drop l.cell-index l.cells)) ≡ has_header l.key (map (λ cell. cell.items) l.cells)
