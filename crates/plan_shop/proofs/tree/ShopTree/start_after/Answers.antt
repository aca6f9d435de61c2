use Rattle.std.proofs.Common.{arith}
use Rattle.plan_shop.proofs.HeldLemmas.{held, free-read}
use Rattle.plan_shop.proofs.tree.ShopTree.start_after.Goals as goal

pub returns-else-step-eq0-clause-within : goal.returns-else-step-eq0-clause-within
returns-else-step-eq0-clause-within c =
    let h = held _ _ _ _ _ _ _ _ c.self.view_is c.self.invariant.kept in
    let r = free-read _ _ _ _ _ _ h c.args.step.machine c.index.result.now c.requires c.index.ensures in
    let most = h.within.frees c.args.step.machine in
    omega (arith, c.max.ensures, r, most)
