use Rattle.std.proofs.Common.{◌≡◌, [], map, drop}
use Rattle.plan_table.specs.Header.{head_of, heads_at}
use Rattle.plan_table.proofs.header.read_heads.Given as goal

-- the cells that are left, behind the columns so far, give all columns
abbrev pub invariant-loop-cell : goal.invariant-loop-cell
invariant-loop-cell l = heads_at l.line (map head_of l.heads.items) (map (λ cell. cell.items) (drop l.cell-index l.cells)) ≡ heads_at l.line [] (map (λ cell. cell.items) l.cells)
