use Rattle.std.proofs.Common.{arith}
use Rattle.plan_shop.specs.Words.{ready}
use Rattle.plan_shop.proofs.HeldLemmas.{held, end-read}
use Rattle.plan_shop.proofs.tree.ShopTree.ready.Goals as goal

pub returns-clause-value : goal.returns-clause-value
unfolding ready
returns-clause-value c =
    let h = held _ _ _ _ _ _ _ _ c.self.view_is c.self.invariant.kept in
    let r = end-read _ _ _ _ _ _ h c.args.job c.index.result.now c.requires.job c.index.ensures in
    let a = c.start_after.ensures.value in
    let b = c.next_step.ensures.time in
    let d = c.next_step.ensures.machine in
    cc

pub returns-clause-within : goal.returns-clause-within
returns-clause-within c =
    let h = held _ _ _ _ _ _ _ _ c.self.view_is c.self.invariant.kept in
    let most = h.within.readies c.args.job in
    omega (arith, most, returns-clause-value c)
