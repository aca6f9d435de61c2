use Rattle.std.proofs.Common.{◌-◌, ◌∙◌, Bool, subst, sym}
use Rattle.plan_weekview.specs.WeekDays as week_days
use Rattle.plan_weekback.proofs.texts.last_text.Goals as goal

pub returns-then-takes_time-clause-beyond : goal.returns-then-takes_time-clause-beyond
returns-then-takes_time-clause-beyond c = λ failed.
    subst (λ (b : Bool). week_days.IsBeyondIf c.args.calendar.now b (c.args.ends - 1))
    (sym c.if-takes_time.true ∙ c.takes_time.ensures) (c.day_text.ensures.beyond failed)
