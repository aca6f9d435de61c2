use Rattle.std.proofs.Common.{ℕ, ◌<◌, get_or}
use Rattle.plan_net.specs.Network.{IsArc}
use Rattle.plan_net.specs.Placed.{IsOpen}
use Rattle.plan_net.proofs.order.next_from.Given as goal

-- the successors so far that are below j have an open predecessor
abbrev pub invariant-loop-k : goal.invariant-loop-k
invariant-loop-k l = (m : ℕ) → m < l.k-index → get_or l.k-items m 0 < l.j → (i : ℕ) × IsArc l.arcs i (get_or l.k-items m 0) × IsOpen l.placed i
