-- The first to end of the jobs so far, whose next steps all take time.
use Rattle.std.proofs.Common.{ℕ, ◌≡◌, ◌<◌, ◌&&◌, false}
use Rattle.std.specs.Prelude.{nat_eq}
use Rattle.plan_shop.specs.Shop.{time_of}
use Rattle.plan_shop.specs.Words.{has_next, next_step}
use Rattle.plan_shop.specs.Trees.{placed}
use Rattle.plan_shop.proofs.LetterLemmas.{IsSoFar}
use Rattle.plan_shop.proofs.tree.ShopTree.front.Given as goal

abbrev pub invariant-loop-job : goal.invariant-loop-job
invariant-loop-job l = record {
  lasting : (i : ℕ) → i < l.job → (has_next l.self.shop (placed l.self) i && nat_eq (time_of l.self.shop (next_step l.self.shop (placed l.self) i)) 0) ≡ false;
  first : IsSoFar l.self l.job l.first;
}
