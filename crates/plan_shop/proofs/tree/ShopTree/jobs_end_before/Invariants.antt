-- No job so far has a bound at the limit or above.
use Rattle.std.proofs.Common.{◌<◌}
use Rattle.plan_sgs.specs.Problem.{greatest_below}
use Rattle.plan_shop.specs.Bound.{job_bound}
use Rattle.plan_shop.specs.Trees.{placed}
use Rattle.plan_shop.proofs.tree.ShopTree.jobs_end_before.Given as goal

abbrev pub invariant-loop-job : goal.invariant-loop-job
invariant-loop-job l = greatest_below l.job (job_bound l.self.shop (placed l.self)) < l.limit
