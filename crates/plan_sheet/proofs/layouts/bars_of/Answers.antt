use Rattle.std.proofs.Common.{arith}
use Rattle.plan_sheet.specs.Layouts.{bar_at, layout_of}
use Rattle.plan_sheet.proofs.NumberedLemmas.{next_item}
use Rattle.plan_sheet.proofs.layouts.bars_of.Goals as goal

pub loop-k-preserved : goal.loop-k-preserved
loop-k-preserved c =
    next_item (bar_at (layout_of c.args.layout) c.args.starts.now) 0 c.loop-k.k c.loop-k.k _ _ _ (omega arith)
    c.loop-k.invariant c.in_ok-push.ensures.items c.bar_at-bar.ensures
