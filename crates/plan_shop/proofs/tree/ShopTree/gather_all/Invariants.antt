-- The pending steps of the jobs so far.
use Rattle.std.proofs.Common.{◌*◌}
use Rattle.plan_shop.specs.Trees.{IsGathered}
use Rattle.plan_shop.proofs.tree.ShopTree.gather_all.Given as goal

abbrev pub invariant-loop-job : goal.invariant-loop-job
invariant-loop-job l = IsGathered l.self (l.job * l.self.shop.machines) l.pending
