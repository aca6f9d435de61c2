use Rattle.std.proofs.Common.{◌≡◌, map, drop}
use Rattle.plan_table.specs.Kinds.{has_duration}
use Rattle.plan_table.proofs.kinds.has_duration.Given as goal

-- a cell is a header of durations if one of those that are left is it
abbrev pub invariant-loop-cell : goal.invariant-loop-cell
invariant-loop-cell l = has_duration (map (λ cell. cell.items) (drop l.cell-index l.cells)) ≡ has_duration (map (λ cell. cell.items) l.cells)
