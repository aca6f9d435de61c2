use Rattle.plan_sheet.specs.Marks.{unit_tick}
use Rattle.plan_sheet.proofs.NumberedLemmas.{next_number}
use Rattle.plan_sheet.proofs.axis_marks.push_unit_ticks.Goals as goal

pub loop-k-preserved : goal.loop-k-preserved
loop-k-preserved c =
    next_number (unit_tick c.args.span c.args.height) c.loop-k.k _ _ _ c.loop-k.invariant c.in_ok-push_unit_tick.ensures
