use Rattle.plan_shop.proofs.FlatLemmas.{small_shop}
use Rattle.plan_shop.proofs.shop.Shop.of_doc.Goals as goal

pub invariant_of-result : goal.invariant_of-result
invariant_of-result c = rw (c.machines-machines.ensures.value, c.jobs.ensures.value, c.in_ok-steps.ensures) (small_shop c.args.doc.now c.jobs.ensures.shop)
