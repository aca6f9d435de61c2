use Rattle.std.proofs.Common.{ap, subst, ◌∙◌}
use Rattle.std.specs.Prelude.{IfOk}
use Rattle.plan_sheet.specs.Bars.{greatest_end}
use Rattle.plan_sheet.specs.Days.{AreDays, HasDayBeyond}
use Rattle.plan_sheet.specs.Moments.{day_count}
use Rattle.plan_sheet.proofs.reports.schedule_days.Goals as goal

pub returns-clause-days : goal.returns-clause-days
returns-clause-days c =
    let count = c.day_count.ensures.count ∙ ap (day_count c.args.style.now.hours) (c.last_end.ensures ∙ ap greatest_end (c.deref.ensures.value ∙ c.in_ok-bars.ensures)) in
    subst (λ n. IfOk c.working_days.result (λ days. AreDays c.args.calendar.now n days.items)) count c.working_days.ensures.days

pub returns-clause-beyond : goal.returns-clause-beyond
returns-clause-beyond c is =
    let count = c.day_count.ensures.count ∙ ap (day_count c.args.style.now.hours) (c.last_end.ensures ∙ ap greatest_end (c.deref.ensures.value ∙ c.in_ok-bars.ensures)) in
    subst (λ n. HasDayBeyond c.args.calendar.now n) count (c.working_days.ensures.beyond is)
