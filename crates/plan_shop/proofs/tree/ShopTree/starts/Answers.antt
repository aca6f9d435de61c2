use Rattle.std.proofs.Common.{arith}
use Rattle.plan_shop.specs.Trees.{placed}
use Rattle.plan_shop.proofs.HeldLemmas.{held}
use Rattle.plan_shop.proofs.FullLemmas.{full-placed, count-read}
use Rattle.plan_shop.proofs.tree.ShopTree.starts.Goals as goal

pub start-requires-clause-placed : goal.start-requires-clause-placed
start-requires-clause-placed c =
    let h = held _ _ _ _ _ _ _ _ c.self.view_is c.self.invariant.kept in
    let count = count-read c.self.inside.shop.now _ c.args.self.now c.self.view_is c.jobs.ensures.shop.shop c.jobs.result c.machines.result c.jobs.ensures.value c.machines.ensures.value in
    full-placed c.args.self.now.shop h.small.shop (placed c.args.self.now) c.requires c.loop-i.i (omega (arith, count, c.loop-i-test.true))
