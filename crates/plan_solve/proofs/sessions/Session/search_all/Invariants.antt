use Rattle.std.proofs.Common.{◌≡◌}
use Rattle.plan_solve.specs.Progress.{HearsTruth}
use Rattle.plan_solve.proofs.sessions.Session.search_all.Given as goal

-- the problem stays the same, and what the watcher was told is true
abbrev pub invariant-loop-conflict : goal.invariant-loop-conflict
invariant-loop-conflict g l = record {
  input : l.self.search.prover.kernel.known.input ≡ l.fn.self.search.prover.kernel.known.input;
  told : HearsTruth (g.S.Solvable.problem l.source) l.conflicts (g.W.Watcher.was_told l.fn.watcher) (g.W.Watcher.was_told l.watcher);
}
