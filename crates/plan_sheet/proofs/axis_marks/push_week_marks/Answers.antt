use Rattle.plan_sheet.specs.Marks.{week_at}
use Rattle.plan_sheet.proofs.NumberedLemmas.{next_number}
use Rattle.plan_sheet.proofs.axis_marks.push_week_marks.Goals as goal

pub loop-t-preserved : goal.loop-t-preserved
loop-t-preserved c =
    next_number (week_at c.args.span c.args.days.now) c.loop-t.t _ _ _ c.loop-t.invariant c.in_ok-push_week.ensures
