-- No machine so far has a bound at the limit or above.
use Rattle.std.proofs.Common.{◌<◌}
use Rattle.plan_sgs.specs.Problem.{greatest_below}
use Rattle.plan_shop.specs.Bound.{bound_of_pending, pending}
use Rattle.plan_shop.specs.Trees.{placed}
use Rattle.plan_shop.proofs.tree.ShopTree.machines_end_before.Given as goal

abbrev pub invariant-loop-machine : goal.invariant-loop-machine
invariant-loop-machine l =
    greatest_below l.machine (λ m. bound_of_pending l.self.shop (placed l.self) (pending l.self.shop (placed l.self) m)) < l.limit
