use Rattle.std.proofs.Common.{ap, sym, arith}
use Rattle.plan_shop.specs.Trees.{Standing}
use Rattle.plan_shop.proofs.FullLemmas.{not_full, all_full, held-word}
use Rattle.plan_shop.proofs.tree.ShopTree.full.Goals as goal

pub returns-then-has_next-clause-value : goal.returns-then-has_next-clause-value
returns-then-has_next-clause-value c =
    let jobs = ap (λ (v : Standing). v.shop.jobs) c.self.view_is in
    not_full c.args.self.now.shop _ c.loop-job.job (omega (arith, jobs, c.jobs-job-end.ensures.value, c.loop-job-test.true)) (sym c.if-has_next.ensures)

pub returns-then-has_next-clause-word : goal.returns-then-has_next-clause-word
returns-then-has_next-clause-word c = held-word _ _ _ _ _ _ _ _ c.self.view_is c.self.invariant.kept

pub returns-clause-value : goal.returns-clause-value
returns-clause-value c =
    let jobs = ap (λ (v : Standing). v.shop.jobs) c.self.view_is in
    all_full c.args.self.now.shop _ (λ j below. c.loop-job.invariant j (omega (arith, jobs, c.jobs-job-end.ensures.value, c.loop-job-test.false, below)))

pub returns-clause-word : goal.returns-clause-word
returns-clause-word c = held-word _ _ _ _ _ _ _ _ c.self.view_is c.self.invariant.kept
