use Rattle.std.proofs.Common.{◌≡◌, length, map, ap, subst, sym, arith}
use Rattle.plan_orlib.specs.Shop.{Shop, IsJob}
use Rattle.plan_orlib.proofs.ShopLemmas.{job_at_good}
use Rattle.plan_orlib.proofs.shop.ShopDoc.steps.Goals as goal

pub returns-clause-job : goal.returns-clause-job
returns-clause-job c =
    let counted : length (map (λ job. job.items) c.self.inside.jobs.items) ≡ length c.args.self.now.jobs = ap (λ (shop : Shop). length shop.jobs) c.self.view_is in
    let row = job_at_good (IsJob c.self.inside.machines)
    (λ job. job.items) c.self.inside.jobs.items _ c.index.result.now c.index.ensures
    (omega (arith, counted, c.requires.first, c.requires.last)) c.self.invariant.steps in
    let lent = subst (IsJob c.self.inside.machines) (sym c.deref.ensures.value) row in
    subst (λ (shop : Shop). IsJob shop.machines c.deref.result.now) c.self.view_is lent
