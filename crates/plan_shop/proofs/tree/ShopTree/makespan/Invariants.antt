-- The greatest end so far.
use Rattle.std.proofs.Common.{◌+◌, ◌≡◌}
use Rattle.plan_sgs.specs.Problem.{greatest_below}
use Rattle.plan_shop.specs.Shop.{time_of}
use Rattle.plan_shop.specs.Words.{start_in}
use Rattle.plan_shop.specs.Trees.{placed}
use Rattle.plan_shop.proofs.tree.ShopTree.makespan.Given as goal

abbrev pub invariant-loop-i : goal.invariant-loop-i
invariant-loop-i l = l.makespan ≡ greatest_below l.i (λ x. start_in (placed l.self) x + time_of l.self.shop x)
