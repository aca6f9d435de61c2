-- The starts so far.
use Rattle.std.proofs.Common.{◌≡◌, map, take}
use Rattle.plan_sgs.specs.Serial.{start_or_zero}
use Rattle.plan_sgs.proofs.placement.starts_of.Given as goal

abbrev pub invariant-loop-start : goal.invariant-loop-start
invariant-loop-start l = l.starts.items ≡ map start_or_zero (take l.start-index l.placed)
