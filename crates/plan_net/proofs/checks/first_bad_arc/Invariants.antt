use Rattle.std.proofs.Common.{take}
use Rattle.std.specs.List.{All}
use Rattle.plan_net.specs.Network.{unlagged}
use Rattle.plan_net.specs.Limits.{IsGoodArc}
use Rattle.plan_net.proofs.checks.first_bad_arc.Given as goal

-- the arcs so far have good ends
abbrev pub invariant-loop-i : goal.invariant-loop-i
invariant-loop-i l = All (IsGoodArc (unlagged l.durations l.arcs)) (take l.i-index l.arcs)
