use Rattle.std.proofs.Common.{rules, ap, subst, ◌∙◌}
use Rattle.plan_calendar.specs.Hours.{shown_moment}
use Rattle.plan_calendar.specs.WorkingDay.{IsBeyond, IsWorkingDay}
use Rattle.plan_views.proofs.moments.begin_text.Goals as goal

pub returns-clause-text : goal.returns-clause-text
returns-clause-text c = (
  c.in_ok-date.date,
  subst (λ d. IsWorkingDay c.args.calendar.now d c.in_ok-date.date) c.day_of.ensures c.in_ok-date.ensures.day,
  c.in_ok-text.ensures ∙ ap (λ m. shown_moment c.args.style.now.weekdays c.in_ok-date.date m) c.begin_minute-minute.ensures.minute,
)

pub returns-in_err-date-clause-beyond : goal.returns-in_err-date-clause-beyond
returns-in_err-date-clause-beyond c is =
    subst (λ d. IsBeyond c.args.calendar.now d) c.day_of.ensures (c.date_of.ensures.beyond (search rules))
