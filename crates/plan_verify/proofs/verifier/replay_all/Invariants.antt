use Rattle.std.proofs.Common.{◌≡◌}
use Rattle.plan_verify.proofs.verifier.replay_all.Given as goal

-- the problem stays the same
abbrev pub invariant-loop : goal.invariant-loop
invariant-loop g l = l.replay.kernel.known.input ≡ l.fn.replay.kernel.known.input
