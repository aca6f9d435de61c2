-- The numbers so far.
use Rattle.std.proofs.Common.{◌+◌}
use Rattle.plan_net.specs.Network.{duration_of}
use Rattle.plan_sgs.proofs.KeyLemmas.{AreValues}
use Rattle.plan_sgs.proofs.keys.durations.Given as goal

abbrev pub invariant-loop-i : goal.invariant-loop-i
invariant-loop-i l = AreValues (λ h. duration_of l.network (h + 1)) l.keys.items l.i
