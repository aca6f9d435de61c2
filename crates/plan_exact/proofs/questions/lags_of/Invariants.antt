use Rattle.std.proofs.Common.{◌≡◌, map, take}
use Rattle.plan_net.specs.Network.{lag_of}
use Rattle.plan_exact.proofs.questions.lags_of.Given as goal

-- the lags of the arcs so far
abbrev pub invariant-loop-i : goal.invariant-loop-i
invariant-loop-i l = l.lags.items ≡ map (λ arc. lag_of l.network arc.0 arc.1) (take l.i-index l.arcs)
