use Rattle.std.proofs.Common.{◌≡◌, ◌+◌, ap, sym, ◌∙◌, subst, pos, ◌+ℤ◌, nat_lt}
use Rattle.jiff_core.specs.Date.{epoch_day}
use Rattle.plan_calendar.specs.WorkingDay.{Workdays, IsBeyond, working_days}
use Rattle.plan_weekdates.proofs.CountLemmas.{day_within, none_within}
use Rattle.plan_weekdates.proofs.calendar.is_within.Goals as goal

pub returns-in-Ok : goal.returns-in-Ok
returns-in-Ok c =
    subst (λ (s : Workdays). nat_lt c.place_of.result (c.place_of-in-Ok.result + c.args.days) ≡ nat_lt c.args.t (working_days s (epoch_day s.start) c.args.days)) c.calendar.view_is
    (day_within c.calendar.inside.calendar c.args.t c.args.days c.place_of.result c.place_of-in-Ok.result c.in-Ok.date c.in-Ok.ensures.day
    c.place_of.ensures.place (ap (λ n. n +ℤ pos 4371587) (sym c.calendar.invariant) ∙ c.place_of-in-Ok.ensures.place))

pub returns-in-Err : goal.returns-in-Err
returns-in-Err c =
    none_within c.args.calendar.now c.args.t c.args.days
    (subst (λ (s : Workdays). IsBeyond s c.args.t) c.calendar.view_is (c.in-Err.ensures.beyond).1) c.requires
