use Rattle.std.proofs.Common.{◌+◌, ap, sym, ◌∙◌}
use Rattle.plan_calendar.proofs.WeekLemmas.{one_marked, one_unmarked}
use Rattle.plan_calendar.proofs.weeks.marks_until.Goals.{then-mark_at, else-mark_at}
use Rattle.plan_calendar.proofs.weeks.marks_until.Goals as goal

pub loop-days-preserved : goal.loop-days-preserved
loop-days-preserved c = elim c.if-mark_at.branch [
  | then-mark_at b ↦ b.count-is ∙ ap (λ n. n + 1) c.loop-days.invariant ∙ sym (one_marked c.args.marks.now c.args.weekday c.loop-days.days c.mark_at.result c.mark_at.ensures b.if-mark_at.true)
  | else-mark_at b ↦ b.count-is ∙ c.loop-days.invariant ∙ sym (one_unmarked c.args.marks.now c.args.weekday c.loop-days.days c.mark_at.result c.mark_at.ensures b.if-mark_at.false)
]
