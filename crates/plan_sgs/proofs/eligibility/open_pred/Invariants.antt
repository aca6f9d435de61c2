-- The predecessors so far are taken.
use Rattle.std.proofs.Common.{ℕ, ◌<◌, get_or}
use Rattle.plan_net.specs.Placed.{IsPlaced}
use Rattle.plan_sgs.proofs.eligibility.open_pred.Given as goal

abbrev pub invariant-loop-i : goal.invariant-loop-i
invariant-loop-i l = (m : ℕ) → m < l.i-index → IsPlaced l.taken (get_or l.i-items m 0)
