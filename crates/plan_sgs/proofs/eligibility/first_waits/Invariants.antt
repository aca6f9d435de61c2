-- The number of the arcs so far that lead to each activity.
use Rattle.std.proofs.Common.{take}
use Rattle.plan_net.specs.Network.{count_of}
use Rattle.plan_sgs.specs.Eligibility.{AreInDegrees}
use Rattle.plan_sgs.proofs.eligibility.first_waits.Given as goal

abbrev pub invariant-loop-j : goal.invariant-loop-j
invariant-loop-j l = AreInDegrees (count_of l.network) (take l.j-index l.j-items) l.waits.items
