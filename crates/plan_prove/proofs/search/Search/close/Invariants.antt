use Rattle.std.proofs.Common.{◌≡◌}
use Rattle.plan_prove.specs.Proofs.{IsSearchOf, IsNoWorse}
use Rattle.plan_prove.specs.Progress.{HearsTruth}
use Rattle.plan_prove.proofs.search.Search.close.Given as goal

-- the schedule and the lower bound so far are a proof, and the reports to the watcher are true
abbrev pub invariant-loop-step : goal.invariant-loop-step
invariant-loop-step g l = record {
  search : IsSearchOf l.shop l.self;
  no_worse : IsNoWorse l.fn.self.proof l.self.proof;
  most : l.self.most ≡ l.fn.self.most;
  told : HearsTruth l.shop l.fn.self.most (g.W.Watcher.was_told l.fn.watcher) (g.W.Watcher.was_told l.watcher);
}
