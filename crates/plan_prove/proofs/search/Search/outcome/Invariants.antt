use Rattle.std.proofs.Common.{◌≤◌}
use Rattle.plan_prove.specs.Graphs.{NoneIsBelow}
use Rattle.plan_prove.specs.States.{AreRefuted}
use Rattle.plan_prove.specs.Proofs.{HasTaken}
use Rattle.plan_prove.specs.Progress.{HearsKnown}
use Rattle.plan_prove.proofs.search.Search.outcome.Given as goal

-- no starts are below the limit if all waiting states are refuted; at most the nodes that are left
-- are granted, and the reports have the data of the search
abbrev pub invariant-loop-part : goal.invariant-loop-part
invariant-loop-part g l = record {
  rest : AreRefuted l.fn.self.graph l.limit l.waiting.items → NoneIsBelow l.fn.self.graph l.limit;
  taken : HasTaken l.fn.self l.self;
  granted : l.granted ≤ l.self.left;
  told : HearsKnown l.fn.self (g.W.Watcher.was_told l.fn.watcher) (g.W.Watcher.was_told l.watcher);
}
