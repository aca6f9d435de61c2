use Rattle.std.proofs.Common.{◌≡◌}
use Rattle.plan_solve.proofs.derivation.learn_window.Given as goal

-- the problem stays the same
abbrev pub invariant-loop-member : goal.invariant-loop-member
invariant-loop-member l = l.prover.kernel.known.input ≡ l.fn.prover.kernel.known.input
