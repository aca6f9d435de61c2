-- The end of the job so far, and the pending steps up to there.
use Rattle.std.proofs.Common.{◌≡◌, ◌+◌, ◌-◌, ◌*◌, ◌≤◌}
use Rattle.plan_shop.specs.Words.{steps_done}
use Rattle.plan_shop.specs.Trees.{placed, IsGathered}
use Rattle.plan_shop.proofs.PendingLemmas.{end_at}
use Rattle.plan_shop.proofs.tree.ShopTree.gather.Given as goal

abbrev pub invariant-loop-place : goal.invariant-loop-place
invariant-loop-place l = record {
  since : steps_done (placed l.self) l.job ≤ l.place;
  ended : l.end ≡ end_at l.self.shop (placed l.self) l.job (l.place - steps_done (placed l.self) l.job);
  early : l.end ≤ 10000000 + (l.place - steps_done (placed l.self) l.job) * 10000;
  gathered : IsGathered l.self (l.job * l.self.shop.machines + l.place) l.pending;
}
