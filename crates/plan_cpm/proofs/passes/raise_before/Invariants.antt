use Rattle.std.proofs.Common.{◌+◌, ◌≤◌}
use Rattle.plan_net.specs.Network.{IsArc, lag_of}
use Rattle.plan_cpm.proofs.MoveLemmas.{AreMoved}
use Rattle.plan_cpm.proofs.passes.raise_before.Given as goal

-- the entries of the predecessors so far were raised
abbrev pub invariant-loop-k : goal.invariant-loop-k
invariant-loop-k l = AreMoved (λ a b. a ≤ b) (λ i. IsArc l.network i l.j) (λ i. lag_of l.network i l.j + l.tail) l.i-items l.k l.fn.rests.items l.rests.items
