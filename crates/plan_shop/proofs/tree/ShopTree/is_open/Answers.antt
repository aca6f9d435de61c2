use Rattle.std.proofs.Common.{◌∙◌}
use Rattle.plan_sgs.specs.Problem.{greatest_below}
use Rattle.plan_shop.specs.Bound.{bound_of, job_bound, bound_of_pending, pending}
use Rattle.plan_shop.specs.Trees.{placed}
use Rattle.plan_shop.proofs.BeforeLemmas.{none-before, max-late, max-before}
use Rattle.plan_shop.proofs.tree.ShopTree.is_open.Goals as goal

pub returns-then-limit-eq0 : goal.returns-then-limit-eq0
returns-then-limit-eq0 c = rw c.if-limit-eq0.true (none-before (bound_of c.args.self.now.shop (placed c.args.self.now)))

pub returns-then-not-jobs_end_before : goal.returns-then-not-jobs_end_before
unfolding bound_of
returns-then-not-jobs_end_before c =
    let s = c.args.self.now.shop in
    let xs = placed c.args.self.now in
    max-late (greatest_below s.jobs (job_bound s xs)) (greatest_below s.machines (λ m. bound_of_pending s xs (pending s xs m))) c.args.limit c.if-not-jobs_end_before.ensures

pub returns : goal.returns
unfolding bound_of
returns c =
    let s = c.args.self.now.shop in
    let xs = placed c.args.self.now in
    c.machines_end_before.ensures
    ∙ max-before (greatest_below s.jobs (job_bound s xs)) (greatest_below s.machines (λ m. bound_of_pending s xs (pending s xs m))) c.args.limit c.if-not-jobs_end_before.ensures
