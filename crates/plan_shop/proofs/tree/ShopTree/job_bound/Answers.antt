use Rattle.std.proofs.Common.{◌∙◌, ap, sym, arith}
use Rattle.plan_shop.specs.Bound.{tail_of}
use Rattle.plan_shop.proofs.HeldLemmas.{held, tail-read}
use Rattle.plan_shop.proofs.PendingLemmas.{tail_of-short, job_bound-next}
use Rattle.plan_shop.proofs.tree.ShopTree.job_bound.Goals as goal

pub overflow_add-result-2 : goal.overflow_add-result-2
overflow_add-result-2 c =
    let h = held _ _ _ _ _ _ _ _ c.self.view_is c.self.invariant.kept in
    let tail = tail-read _ _ _ _ _ _ h c.next_number.result c.index-tail.result.now c.next_number.ensures.step c.index-tail.ensures in
    let short = tail_of-short c.args.self.now.shop h.small c.next_number.result in
    omega (arith, tail, short, c.ready.ensures.within, c.next_step.ensures.short)

pub returns : goal.returns
returns c =
    let h = held _ _ _ _ _ _ _ _ c.self.view_is c.self.invariant.kept in
    let tail = tail-read _ _ _ _ _ _ h c.next_number.result c.index-tail.result.now c.next_number.ensures.step c.index-tail.ensures in
    job_bound-next c.args.self.now c.args.job c.ready.result c.next_step.result.time c.index-tail.result.now
    (sym c.if-not-has_next.ensures) c.ready.ensures.value c.next_step.ensures.time
    (tail ∙ ap (tail_of c.args.self.now.shop) c.next_number.ensures.value)
