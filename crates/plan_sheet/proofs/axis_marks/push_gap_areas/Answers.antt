use Rattle.plan_sheet.specs.Marks.{gap_at}
use Rattle.plan_sheet.proofs.NumberedLemmas.{next_number}
use Rattle.plan_sheet.proofs.axis_marks.push_gap_areas.Goals as goal

pub loop-t-preserved : goal.loop-t-preserved
loop-t-preserved c =
    next_number (gap_at c.args.span c.args.days.now c.args.height) c.loop-t.t _ _ _ c.loop-t.invariant c.in_ok-push_gap.ensures
