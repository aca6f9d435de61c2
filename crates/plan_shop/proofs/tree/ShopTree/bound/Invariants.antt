-- The greatest of the jobs and of the machines so far.
use Rattle.std.proofs.Common.{◌≡◌, max}
use Rattle.plan_sgs.specs.Problem.{greatest_below}
use Rattle.plan_shop.specs.Bound.{job_bound, bound_of_pending, pending}
use Rattle.plan_shop.specs.Trees.{placed}
use Rattle.plan_shop.proofs.tree.ShopTree.bound.Given as goal

abbrev pub invariant-loop-machine : goal.invariant-loop-machine
invariant-loop-machine l =
    l.greatest ≡ max (greatest_below l.self.shop.jobs (job_bound l.self.shop (placed l.self)))
    (greatest_below l.machine (λ m. bound_of_pending l.self.shop (placed l.self) (pending l.self.shop (placed l.self) m)))
