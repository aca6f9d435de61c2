use Rattle.std.proofs.Common.{◌≡◌}
use Rattle.plan_solve.proofs.plans.refute_absences.Given as goal

-- the problem stays the same
abbrev pub invariant-loop-place : goal.invariant-loop-place
invariant-loop-place l = l.prover.kernel.known.input ≡ l.fn.prover.kernel.known.input
