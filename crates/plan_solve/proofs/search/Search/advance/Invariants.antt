use Rattle.std.proofs.Common.{◌≡◌}
use Rattle.plan_solve.proofs.search.Search.advance.Given as goal

-- the problem stays the same
abbrev pub invariant-loop : goal.invariant-loop
invariant-loop l = l.self.prover.kernel.known.input ≡ l.fn.self.prover.kernel.known.input
