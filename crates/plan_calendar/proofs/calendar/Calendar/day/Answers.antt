use Rattle.std.proofs.Common.{◌≡◌, ◌∙◌, refl, ap, sym, subst}
use Rattle.plan_calendar.specs.WorkingDay.{Workdays, IsWorkingDay, IsBeyond}
use Rattle.plan_calendar.specs.DaysOff.{holidays_of, indices_of, shifted_by}
use Rattle.plan_calendar.proofs.IndexLemmas.{shifted_none}
use Rattle.plan_calendar.proofs.DayLemmas.{working, beyond, far_beyond}
use Rattle.plan_calendar.proofs.calendar.Calendar.day.Goals.{in-Some, in-None}
use Rattle.plan_calendar.proofs.calendar.Calendar.day.Goals as goal

pub returns-then-t-gt-MOST_DAYS-clause-beyond : goal.returns-then-t-gt-MOST_DAYS-clause-beyond
returns-then-t-gt-MOST_DAYS-clause-beyond c = (refl, far_beyond c.args.self.now c.args.t c.if-t-gt-MOST_DAYS.true)

pub returns-in-Some-later-clause-day : goal.returns-in-Some-later-clause-day
returns-in-Some-later-clause-day c =
    let calendar : Workdays = record { start = c.self.inside.start; marks = c.self.inside.marks; holidays = holidays_of c.self.inside.off } in
    let index : c.match-self.index ≡ shifted_by (indices_of c.self.inside.off) c.args.t = elim c.match-self.branch [
      | in-Some w ↦ w.index-is ∙ w.shifted-index.ensures.value ∙ ap (λ indices. shifted_by indices c.args.t) w.deref.ensures.value ∙ ap (λ off. shifted_by (indices_of off) c.args.t) (sym w.in-Some.is)
      | in-None w ↦ w.index-is ∙ sym (shifted_none c.args.t) ∙ ap (λ off. shifted_by (indices_of off) c.args.t) (sym w.in-None.is)
    ] in
    subst (λ (s : Workdays). IsWorkingDay s c.args.t c.in-Some-later.date) c.self.view_is
    (working calendar (indices_of c.self.inside.off) c.index-weekday.result c.args.t c.match-self.index c.nth_marked-days.result c.in-Some-later.date c.self.invariant.1
    (c.index-weekday.ensures.value ∙ c.weekday.ensures) index c.nth_marked-days.ensures.found c.in-Some-later.ensures.some)

pub returns-in-None-later-clause-beyond : goal.returns-in-None-later-clause-beyond
returns-in-None-later-clause-beyond c =
    let calendar : Workdays = record { start = c.self.inside.start; marks = c.self.inside.marks; holidays = holidays_of c.self.inside.off } in
    let index : c.match-self.index ≡ shifted_by (indices_of c.self.inside.off) c.args.t = elim c.match-self.branch [
      | in-Some w ↦ w.index-is ∙ w.shifted-index.ensures.value ∙ ap (λ indices. shifted_by indices c.args.t) w.deref.ensures.value ∙ ap (λ off. shifted_by (indices_of off) c.args.t) (sym w.in-Some.is)
      | in-None w ↦ w.index-is ∙ sym (shifted_none c.args.t) ∙ ap (λ off. shifted_by (indices_of off) c.args.t) (sym w.in-None.is)
    ] in (
      refl,
      subst (λ (s : Workdays). IsBeyond s c.args.t) c.self.view_is
          (beyond calendar (indices_of c.self.inside.off) c.index-weekday.result c.args.t c.match-self.index c.nth_marked-days.result c.self.invariant.1
          (c.index-weekday.ensures.value ∙ c.weekday.ensures) index c.nth_marked-days.ensures.found c.in-None-later.ensures.none),
    )
