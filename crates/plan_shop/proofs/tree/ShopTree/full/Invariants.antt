-- No job so far has a step that isn't placed.
use Rattle.std.proofs.Common.{ℕ, ◌<◌, ◌≡◌, false}
use Rattle.plan_shop.specs.Words.{has_next}
use Rattle.plan_shop.specs.Trees.{placed}
use Rattle.plan_shop.proofs.tree.ShopTree.full.Given as goal

abbrev pub invariant-loop-job : goal.invariant-loop-job
invariant-loop-job l = (j : ℕ) → j < l.job → has_next l.self.shop (placed l.self) j ≡ false
