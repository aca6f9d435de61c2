use Rattle.std.proofs.Common.{refl, subst}
use Rattle.std.specs.Prelude.{IsTrue}
use Rattle.std.proofs.lemmas.Bool.{false≢true}
use Rattle.plan_exact.proofs.BudgetLemmas.{positive, unread, too_great, not_above}
use Rattle.plan_exact.proofs.budgets.parse_budget.Goals as goal

pub returns-then-not-begins_above_zero-clause-refused : goal.returns-then-not-begins_above_zero-clause-refused
returns-then-not-begins_above_zero-clause-refused c = (refl, not_above c.args.text.now (λ above. false≢true (subst IsTrue c.if-not-begins_above_zero.true (c.begins_above_zero.ensures.no above))))

pub returns-in-Ok-clause-ok : goal.returns-in-Ok-clause-ok
returns-in-Ok-clause-ok c = positive c.args.text.now c.parse.result c.in-Ok.budget c.parse.ensures.value.0
    (c.begins_above_zero.ensures.yes c.if-not-begins_above_zero.false) c.in-Ok.is
    c.if-budget-le-GREATEST_BUDGET.true

pub returns-in_default-clause-refused : goal.returns-in_default-clause-refused
returns-in_default-clause-refused c = (refl, too_great c.args.text.now c.parse.result c.in-Ok.budget c.parse.ensures.value.0 c.in-Ok.is c.if-budget-le-GREATEST_BUDGET.false)

pub returns-in_default-2-clause-refused : goal.returns-in_default-2-clause-refused
returns-in_default-2-clause-refused c = (refl, unread c.args.text.now c.parse.result c.in_default.field-0 c.parse.ensures.value.0 c.in_default.is)
