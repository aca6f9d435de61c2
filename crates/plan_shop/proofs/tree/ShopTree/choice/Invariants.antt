-- The best of the letters so far.
use Rattle.std.proofs.Common.{take}
use Rattle.plan_shop.specs.Words.{jobs_after}
use Rattle.plan_shop.specs.Trees.{placed}
use Rattle.plan_shop.proofs.ChoiceLemmas.{IsBestSoFar}
use Rattle.plan_shop.proofs.tree.ShopTree.choice.Given as goal

abbrev pub invariant-loop-letter : goal.invariant-loop-letter
invariant-loop-letter l = IsBestSoFar l.rule l.self.shop (placed l.self) (take l.letter-index (jobs_after l.self.shop (placed l.self))) l.best
