use Rattle.std.proofs.Common.{ℕ, Option, subst, sym}
use Rattle.plan_weekview.specs.WeekDays as week_days
use Rattle.plan_weekback.proofs.texts.first_text.Goals as goal

pub returns-in-Some-clause-beyond : goal.returns-in-Some-clause-beyond
returns-in-Some-clause-beyond c = λ failed.
    subst (λ (b : Option ℕ). week_days.IsFirstBeyond c.args.calendar.now b c.args.ends) (sym c.in-Some.is)
    (c.if-begin-ends.true, c.day_text.ensures.beyond failed)
