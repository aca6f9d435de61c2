use Rattle.std.proofs.Common.{◌≡◌, map, take}
use Rattle.plan_kernel.proofs.shop.times_of.Given as goal

-- the times so far
abbrev pub invariant-loop-x : goal.invariant-loop-x
invariant-loop-x l = l.times.items ≡ map (λ w. w.time) (take l.x l.shop.steps)
