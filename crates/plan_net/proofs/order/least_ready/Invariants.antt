use Rattle.plan_net.specs.Placed.{IsStuckBelow}
use Rattle.plan_net.proofs.order.least_ready.Given as goal

-- each open activity so far has an open predecessor
abbrev pub invariant-loop-j : goal.invariant-loop-j
invariant-loop-j l = IsStuckBelow l.arcs l.placed l.j
