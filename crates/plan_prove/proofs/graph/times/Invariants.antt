use Rattle.std.proofs.Common.{◌≡◌, map, take}
use Rattle.plan_prove.proofs.graph.times.Given as goal

-- the times so far are those of the first steps
abbrev pub invariant-loop-x : goal.invariant-loop-x
invariant-loop-x l = l.times.items ≡ map (λ w. w.time) (take l.x l.shop.steps)
