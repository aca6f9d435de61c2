use Rattle.std.proofs.Common.{◌-◌, ◌∙◌, pos, ◌+ℤ◌, ap, sym}
use Rattle.jiff_core.specs.Date.{epoch_day}
use Rattle.plan_holidays.proofs.EntryLemmas.{gap_is, none_between, no_range}
use Rattle.plan_holidays.proofs.entries.range_in.Goals as goal

pub returns-in_err-span-clause-none : goal.returns-in_err-span-clause-none
returns-in_err-span-clause-none c = no_range c.args.entry.now c.from_residual.result c.in_err-span.ensures.none

pub returns-then-last-first-clause-none : goal.returns-then-last-first-clause-none
returns-then-last-first-clause-none c first last range =
    none_between c.args.entry.now c.in_ok-span.span.first c.in_ok-span.span.last first last c.days_since_min-first.result c.days_since_min-last.result
    (ap (λ d. epoch_day d +ℤ pos 4371587) (sym c.to_plain.ensures) ∙ c.days_since_min-first.ensures.value)
    (ap (λ d. epoch_day d +ℤ pos 4371587) (sym c.to_plain-2.ensures) ∙ c.days_since_min-last.ensures.value)
    c.if-last-first.true c.in_ok-span.ensures.some range

pub returns-clause-some : goal.returns-clause-some
returns-clause-some c = (
  c.in_ok-span.ensures.some,
  (
    c.days_since_min-last.result - c.days_since_min-first.result,
    gap_is c.in_ok-span.span.first c.in_ok-span.span.last c.days_since_min-first.result c.days_since_min-last.result
        (ap (λ d. epoch_day d +ℤ pos 4371587) (sym c.to_plain.ensures) ∙ c.days_since_min-first.ensures.value)
        (ap (λ d. epoch_day d +ℤ pos 4371587) (sym c.to_plain-2.ensures) ∙ c.days_since_min-last.ensures.value)
        c.if-last-first.false,
  ),
)
