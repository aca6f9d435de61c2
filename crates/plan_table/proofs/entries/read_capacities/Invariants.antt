use Rattle.std.proofs.Common.{◌≡◌, [], map, drop}
use Rattle.plan_table.specs.Header.{head_of}
use Rattle.plan_table.specs.Entries.{capacities_read}
use Rattle.plan_table.proofs.entries.read_capacities.Given as goal

-- the columns and the cells that are left, behind the capacities so far, give all capacities
abbrev pub invariant-loop-head : goal.invariant-loop-head
invariant-loop-head l = capacities_read l.line l.capacities.items (map head_of (drop l.head-index l.heads)) (map (λ cell. cell.items) l.rest)
    ≡ capacities_read l.line [] (map head_of l.heads) (map (λ cell. cell.items) l.cells)
