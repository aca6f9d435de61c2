use Rattle.std.proofs.Common.{◌-◌, ◌≤◌}
use Rattle.plan_net.specs.Network.{IsArc, lag_of}
use Rattle.plan_cpm.proofs.MoveLemmas.{AreMoved}
use Rattle.plan_cpm.proofs.floats.lower_before.Given as goal

-- the entries of the predecessors so far were lowered
abbrev pub invariant-loop-m : goal.invariant-loop-m
invariant-loop-m l = AreMoved (λ a b. b ≤ a) (λ j. IsArc l.network j l.k) (λ j. l.start - lag_of l.network j l.k) l.j-items l.m l.fn.nexts.items l.nexts.items
