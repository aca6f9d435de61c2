use Rattle.std.proofs.Common.{rules, ◌≡◌, ◌+◌, ◌-◌, ◌<◌, ℕ, inl, inr, subst, arith}
use Rattle.std.specs.String.{string_bytes}
use Rattle.plan_calendar.specs.WorkingDay.{IsBeyond}
use Rattle.plan_cli.specs.ListTimes.{IsDayText}
use Rattle.plan_gantt.proofs.DayTextLemmas.{shown_beyond}
use Rattle.plan_cli.proofs.ListTimeLemmas.{both_days}
use Rattle.plan_cli.proofs.list_times.day_texts.Goals as goal

pub returns-in_err-first-clause-beyond : goal.returns-in_err-first-clause-beyond
returns-in_err-first-clause-beyond c is =
    shown_beyond c.args.calendar.now c.args.start c.args.duration (omega arith) (inl (c.in_err-first.ensures.beyond (search rules)))

pub returns-in_err-last-clause-beyond : goal.returns-in_err-last-clause-beyond
returns-in_err-last-clause-beyond c is =
    let a = c.args in
    let place : a.start + c.from.result ≡ a.start + (a.duration - 1) = omega (arith, c.from.ensures) in
    shown_beyond a.calendar.now a.start a.duration (omega arith)
    (inr (subst (λ (t : ℕ). IsBeyond a.calendar.now t) place (c.in_err-last.ensures.beyond (search rules))))

pub returns-clause-days : goal.returns-clause-days
returns-clause-days c =
    let a = c.args in
    let place : a.start + c.from.result ≡ a.start + (a.duration - 1) = omega (arith, c.from.ensures) in
    let first = string_bytes c.in_ok-first.first in
    let last = string_bytes c.in_ok-last.last in
    both_days a.calendar.now a.start a.duration first last (omega arith) c.in_ok-first.ensures.day
    (subst (λ (t : ℕ). IsDayText a.calendar.now t last) place c.in_ok-last.ensures.day)
