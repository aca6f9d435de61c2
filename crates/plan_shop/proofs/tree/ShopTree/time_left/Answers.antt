use Rattle.std.proofs.Common.{ap, ◌∙◌, arith}
use Rattle.plan_shop.specs.Bound.{tail_of}
use Rattle.plan_shop.proofs.HeldLemmas.{held, tail-read}
use Rattle.plan_shop.proofs.PendingLemmas.{tail_of-short, time_left-next}
use Rattle.plan_shop.proofs.tree.ShopTree.time_left.Goals as goal

pub overflow_add-result : goal.overflow_add-result
overflow_add-result c =
    let h = held _ _ _ _ _ _ _ _ c.self.view_is c.self.invariant.kept in
    let tail = tail-read _ _ _ _ _ _ h c.next_number.result c.index.result.now c.next_number.ensures.step c.index.ensures in
    omega (arith, tail, tail_of-short c.args.self.now.shop h.small c.next_number.result, c.next_step.ensures.short)

pub returns : goal.returns
returns c =
    let h = held _ _ _ _ _ _ _ _ c.self.view_is c.self.invariant.kept in
    let tail = tail-read _ _ _ _ _ _ h c.next_number.result c.index.result.now c.next_number.ensures.step c.index.ensures in
    time_left-next c.args.self.now c.args.job c.next_step.result.time c.index.result.now c.requires.next c.next_step.ensures.time (tail ∙ ap (tail_of c.args.self.now.shop) c.next_number.ensures.value)
