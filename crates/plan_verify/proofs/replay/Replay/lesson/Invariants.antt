use Rattle.std.proofs.Common.{◌≡◌}
use Rattle.plan_verify.proofs.replay.Replay.lesson.Given as goal

-- the kernel stays the same
abbrev pub invariant-loop : goal.invariant-loop
invariant-loop l = l.self.kernel ≡ l.fn.self.kernel
