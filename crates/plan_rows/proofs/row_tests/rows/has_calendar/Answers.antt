use Rattle.std.proofs.Common.{◌∙◌, sym, ap, subst, length}
use Rattle.std.proofs.lemmas.Bool.{both_ways, eq-eqb}
use Rattle.plan_rows.specs.Rules.{HasCalendar}
use Rattle.plan_rows.specs.RowTests.{Tells}
use Rattle.plan_rows.proofs.RowTestLemmas.{tells_calendar}
use Rattle.plan_rows.proofs.row_tests.rows.has_calendar.Goals as goal

pub returns-else-is_empty : goal.returns-else-is_empty
returns-else-is_empty c =
    subst (λ b. Tells b (HasCalendar c.args.start.now c.args.days.now)) (sym c.is_ok.ensures.value)
    (tells_calendar c.args.start.now c.args.days.now c.new.result
    (λ e. both_ways c.is_empty.result c.if-is_empty.false (c.is_empty.ensures ∙ eq-eqb (length c.args.start.now) 0 (ap length e)))
    c.new.ensures.ok c.new.ensures.refused)
