use Rattle.std.proofs.Common.{arith}
use Rattle.plan_calendar.proofs.WeekLemmas.{one_marked, one_unmarked}
use Rattle.plan_calendar.proofs.weeks.day_of_week.Goals.{then-mark_at+else-left-eq0, else-mark_at}
use Rattle.plan_calendar.proofs.weeks.day_of_week.Goals as goal

pub loop-days-preserved : goal.loop-days-preserved
loop-days-preserved c = elim c.if-mark_at.branch [
  | then-mark_at+else-left-eq0 b ↦
      let more = one_marked c.args.marks.now c.args.weekday c.loop-days.days c.mark_at.result c.mark_at.ensures b.if-mark_at.true in
      omega (arith, more, c.loop-days.invariant, b.left-is, b.if-left-eq0.false)
  | else-mark_at b ↦
      let more = one_unmarked c.args.marks.now c.args.weekday c.loop-days.days c.mark_at.result c.mark_at.ensures b.if-mark_at.false in
      omega (arith, more, c.loop-days.invariant, b.left-is)
]
