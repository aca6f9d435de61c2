use Rattle.std.proofs.Common.{◌≡◌, take}
use Rattle.plan_exact.proofs.questions.durations_of.Given as goal

-- the durations read so far
abbrev pub invariant-loop-k : goal.invariant-loop-k
invariant-loop-k l = l.durations.items ≡ take l.k l.network.durations
