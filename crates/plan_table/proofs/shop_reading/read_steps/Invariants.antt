use Rattle.std.proofs.Common.{◌≡◌, map, length}
use Rattle.plan_table.specs.ShopReading.{entries_of, steps_read}
use Rattle.plan_table.proofs.shop_reading.read_steps.Given as goal

-- the cells that are left, behind the entries so far, give all entries
abbrev pub invariant-loop-rest : goal.invariant-loop-rest
invariant-loop-rest l = steps_read l.line l.order (entries_of l.entries) (map (λ cell. cell.items) l.rest)
    ≡ steps_read l.line l.order (entries_of l.fn.entries) (map (λ cell. cell.items) l.cells)

abbrev pub decreases-loop-rest : goal.decreases-loop-rest
decreases-loop-rest l = length l.rest
