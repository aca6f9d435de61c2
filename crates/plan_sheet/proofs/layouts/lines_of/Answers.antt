use Rattle.plan_sheet.proofs.PartLemmas.{next_entries}
use Rattle.plan_sheet.proofs.layouts.lines_of.Goals as goal

pub loop-k-preserved : goal.loop-k-preserved
loop-k-preserved c = next_entries _ c.loop-k.k _ _ c.loop-k.invariant c.in_ok-push_line.ensures
