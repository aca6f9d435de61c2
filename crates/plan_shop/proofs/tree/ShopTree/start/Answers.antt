use Rattle.std.proofs.Common.{arith}
use Rattle.std.proofs.lemmas.Bool.{ltb-true}
use Rattle.plan_shop.proofs.HeldLemmas.{held, start-read}
use Rattle.plan_shop.proofs.tree.ShopTree.start.Goals as goal

pub returns-clause-value : goal.returns-clause-value
returns-clause-value c =
    let h = held _ _ _ _ _ _ _ _ c.self.view_is c.self.invariant.kept in
    start-read _ _ _ _ _ _ h c.args.i c.index.result.now c.requires.step (ltb-true _ _ c.requires.placed) c.index.ensures

pub returns-clause-within : goal.returns-clause-within
returns-clause-within c =
    let h = held _ _ _ _ _ _ _ _ c.self.view_is c.self.invariant.kept in
    omega (arith, h.within.starts c.args.i, returns-clause-value c)
