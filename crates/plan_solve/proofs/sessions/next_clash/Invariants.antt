use Rattle.std.proofs.Common.{◌≡◌}
use Rattle.plan_solve.specs.Progress.{HearsNothing}
use Rattle.plan_solve.proofs.sessions.next_clash.Given as goal

-- the problem stays the same, and the watcher hears nothing
abbrev pub invariant-loop : goal.invariant-loop
invariant-loop g l = record {
  input : l.search.prover.kernel.known.input ≡ l.fn.search.prover.kernel.known.input;
  told : HearsNothing (g.W.Watcher.was_told l.fn.watcher) (g.W.Watcher.was_told l.watcher);
}
