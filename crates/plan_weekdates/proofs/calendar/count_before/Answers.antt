use Rattle.std.proofs.Common.{◌≡◌, ap, sym, ◌∙◌, pos, ◌+ℤ◌}
use Rattle.jiff_core.specs.Date.{epoch_day}
use Rattle.plan_calendar.specs.WorkingDay.{Workdays, working_days}
use Rattle.plan_weekdates.proofs.CountLemmas.{before_is}
use Rattle.plan_weekdates.proofs.calendar.count_before.Goals as goal

pub returns : goal.returns
returns c day at =
    let first : epoch_day c.calendar.inside.start ≡ epoch_day c.args.calendar.now.start = c.calendar.invariant ∙ ap (λ (s : Workdays). epoch_day s.start) c.calendar.view_is in
    before_is c.args.calendar.now day c.args.place c.place_of.result c.count_within.result
    (c.count_within.ensures ∙ ap (working_days c.args.calendar.now (epoch_day c.args.calendar.now.start)) c.saturating_sub.ensures)
    (ap (λ n. n +ℤ pos 4371587) (sym first) ∙ c.place_of.ensures.place) at
