use Rattle.std.proofs.Common.{rules, ◌+◌, ◌-◌, ◌<◌, inl, inr, arith, refl}
use Rattle.std.specs.String.{string_bytes}
use Rattle.std.proofs.lemmas.Result.{on_ok_weaker}
use Rattle.plan_gantt.proofs.DayTextLemmas.{both_days, shown_beyond}
use Rattle.plan_gantt.proofs.days.push_days.Goals as goal

pub returns-in_err-push_day-clause-beyond : goal.returns-in_err-push_day-clause-beyond
returns-in_err-push_day-clause-beyond c is =
    shown_beyond c.args.calendar.now c.args.interval.start c.args.interval.duration (omega arith) (inl (c.push_day.ensures.beyond (search rules)))

pub returns-clause-days : goal.returns-clause-days
returns-clause-days c =
    let start = c.args.interval.start in
    let duration = c.args.interval.duration in
    let some : 0 < duration = omega arith in
    on_ok_weaker c.push_day-2.result (both_days c.args.calendar.now start duration (start + (duration - 1))
    (string_bytes c.args.text.now) (string_bytes c.push_day.new.text)
    (string_bytes c.push_day-2.new.text) some refl c.in_ok-push_day.ensures.day) c.push_day-2.ensures.day

pub returns-clause-beyond : goal.returns-clause-beyond
returns-clause-beyond c is =
    shown_beyond c.args.calendar.now c.args.interval.start c.args.interval.duration (omega arith) (inr (c.push_day-2.ensures.beyond is))
