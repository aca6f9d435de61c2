use Rattle.std.proofs.Common.{◌≡◌}
use Rattle.plan_solve.proofs.derivation.derive.Given as goal

-- the problem stays the same
abbrev pub invariant-loop-resource : goal.invariant-loop-resource
invariant-loop-resource l = l.prover.kernel.known.input ≡ l.fn.prover.kernel.known.input
