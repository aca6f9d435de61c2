use Rattle.std.proofs.Common.{◌≡◌}
use Rattle.plan_solve.proofs.derivation.descend_all.Given as goal

-- the problem stays the same
abbrev pub invariant-loop : goal.invariant-loop
invariant-loop l = l.prover.kernel.known.input ≡ l.fn.prover.kernel.known.input
