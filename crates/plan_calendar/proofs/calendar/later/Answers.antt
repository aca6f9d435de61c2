use Rattle.std.proofs.Common.{◌≡◌, arith, pos, ◌+ℤ◌, ap, sym, ◌∙◌}
use Rattle.jiff_core.specs.Date.{epoch_day}
use Rattle.jiff_core.proofs.SignedLemmas.{signed_arith}
use Rattle.plan_calendar.proofs.calendar.later.Goals as goal

pub returns-clause-some : goal.returns-clause-some
returns-clause-some c =
    let start : epoch_day c.args.start +ℤ pos 4371587 ≡ pos c.days_since_min.result = ap (λ d. epoch_day d +ℤ pos 4371587) (sym c.to_plain.ensures) ∙ c.days_since_min.ensures.value in
    let last = c.from_days_since_min.ensures in
    let later : epoch_day c.from_days_since_min.result ≡ epoch_day c.args.start +ℤ pos c.args.days = omega (arith, signed_arith, start, last) in
    ap epoch_day c.from_plain.ensures ∙ later

pub returns-then-place-gt-MOST_DAYS-clause-none : goal.returns-then-place-gt-MOST_DAYS-clause-none
returns-then-place-gt-MOST_DAYS-clause-none c inside =
    let start : epoch_day c.args.start +ℤ pos 4371587 ≡ pos c.days_since_min.result = ap (λ d. epoch_day d +ℤ pos 4371587) (sym c.to_plain.ensures) ∙ c.days_since_min.ensures.value in
    omega (arith, signed_arith, start, inside.1, c.if-place-gt-MOST_DAYS.true)
