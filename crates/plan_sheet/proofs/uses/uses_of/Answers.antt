use Rattle.std.proofs.Common.{◌+◌, arith}
use Rattle.plan_sheet.specs.Uses.{activity_use}
use Rattle.plan_sheet.proofs.NumberedLemmas.{next_item}
use Rattle.plan_sheet.proofs.uses.uses_of.Goals as goal

pub loop-k-preserved : goal.loop-k-preserved
loop-k-preserved c =
    next_item (activity_use c.args.instance.now c.args.starts.now c.args.r) 1 c.loop-k.k (c.loop-k.k + 1) _ _ _ (omega arith)
    c.loop-k.invariant c.in_ok-push.ensures.items c.activity_use-one.ensures
