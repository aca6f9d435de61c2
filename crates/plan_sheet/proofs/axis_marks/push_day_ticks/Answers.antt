use Rattle.plan_sheet.specs.Marks.{day_tick}
use Rattle.plan_sheet.proofs.NumberedLemmas.{next_number}
use Rattle.plan_sheet.proofs.axis_marks.push_day_ticks.Goals as goal

pub loop-t-preserved : goal.loop-t-preserved
loop-t-preserved c =
    next_number (day_tick c.args.span c.args.days.now c.args.height) c.loop-t.t _ _ _ c.loop-t.invariant c.in_ok-push_day_tick.ensures
