use Rattle.std.proofs.Common.{◌+◌, arith}
use Rattle.plan_cpm.specs.Dates.{total_float_of}
use Rattle.plan_sheet.proofs.NumberedLemmas.{next_item}
use Rattle.plan_print.proofs.slacks.floats_in.Goals as goal

pub loop-k-preserved : goal.loop-k-preserved
loop-k-preserved c =
    next_item (total_float_of c.args.dates.now) 1 c.loop-k.k (c.loop-k.k + 1) _ _ _ (omega arith)
    c.loop-k.invariant c.in_ok-push.ensures.items c.tf-float.ensures
