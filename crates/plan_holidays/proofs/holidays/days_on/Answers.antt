use Rattle.std.proofs.Common.{refl, inr}
use Rattle.plan_holidays.proofs.NamedLemmas.{bad_entry, span_named}
use Rattle.plan_holidays.proofs.holidays.days_on.Goals as goal

pub returns-in_default-clause-err : goal.returns-in_default-clause-err
returns-in_default-clause-err c =
    inr (
      refl,
      bad_entry c.args.line.now c.in_ok-entry.entry.items c.deref.result.now _ c.is_empty.result c.in_ok-entry.ensures c.in_ok-entry.entry.ok.0 c.is_empty.ensures
          c.if-is_empty.false c.deref.ensures.value c.in_default.ensures.none,
    )

pub returns-clause-ok : goal.returns-clause-ok
returns-clause-ok c =
    span_named c.args.line.now c.in_ok-entry.entry.items c.deref.result.now c.in-Some.span.first c.in-Some.span.last c.in_ok-days_of.field-0.items
    c.in_ok-entry.ensures c.deref.ensures.value c.in-Some.ensures.some c.in_ok-days_of.ensures
