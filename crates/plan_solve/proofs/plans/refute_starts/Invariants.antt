use Rattle.std.proofs.Common.{◌≡◌}
use Rattle.plan_solve.proofs.plans.refute_starts.Given as goal

-- the problem stays the same
abbrev pub invariant-loop-activity : goal.invariant-loop-activity
invariant-loop-activity l = l.prover.kernel.known.input ≡ l.fn.prover.kernel.known.input
