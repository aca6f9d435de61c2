use Rattle.std.proofs.Common.{◌≡◌, ℕ, ap, sym, arith}
use Rattle.std.proofs.lemmas.Bool.{lt-ltb, le-ltb}
use Rattle.plan_sgs.specs.Problem.{greatest_below}
use Rattle.plan_sgs.proofs.TotalLemmas.{greatest_above}
use Rattle.plan_shop.specs.Bound.{job_bound}
use Rattle.plan_shop.specs.Trees.{Standing, placed}
use Rattle.plan_shop.proofs.tree.ShopTree.jobs_end_before.Goals as goal

pub returns-then-job_bound-limit : goal.returns-then-job_bound-limit
returns-then-job_bound-limit c =
    let s = c.args.self.now.shop in
    let f = job_bound s (placed c.args.self.now) in
    let jobs = ap (λ (v : Standing). v.shop.jobs) c.self.view_is in
    let most = greatest_above s.jobs f c.loop-job.job (omega (arith, jobs, c.jobs-job-end.ensures.value, c.loop-job-test.true)) in
    sym (le-ltb (greatest_below s.jobs f) c.args.limit (omega (arith, most, c.job_bound.ensures, c.if-job_bound-limit.true)))

pub returns : goal.returns
returns c =
    let s = c.args.self.now.shop in
    let f = job_bound s (placed c.args.self.now) in
    let jobs = ap (λ (v : Standing). v.shop.jobs) c.self.view_is in
    let all : c.loop-job.job ≡ c.args.self.now.shop.jobs = omega (arith, jobs, c.jobs-job-end.ensures.value, c.loop-job-test.false, c.loop-job.auto.job-end) in
    sym (lt-ltb (greatest_below s.jobs f) c.args.limit (omega (arith, ap (λ (n : ℕ). greatest_below n f) all, c.loop-job.invariant)))
