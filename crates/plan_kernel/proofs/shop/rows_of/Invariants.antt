use Rattle.std.proofs.Common.{◌≡◌, map, take}
use Rattle.plan_kernel.specs.Shops.{needs_of_step}
use Rattle.plan_kernel.proofs.shop.rows_of.Given as goal

-- the rows so far
abbrev pub invariant-loop-x : goal.invariant-loop-x
invariant-loop-x l = map (λ row. row.items) l.rows.items ≡ map (needs_of_step l.shop) (take l.x l.shop.steps)
