use Rattle.std.proofs.Common.{ℕ, ◌<◌, get_or}
use Rattle.plan_net.specs.Placed.{IsPlaced}
use Rattle.plan_net.proofs.order.open_pred.Given as goal

-- the predecessors so far are placed
abbrev pub invariant-loop-i : goal.invariant-loop-i
invariant-loop-i l = (k : ℕ) → k < l.i-index → IsPlaced l.placed (get_or l.i-items k 0)
