use Rattle.std.proofs.Common.{sym, ◌∙◌}
use Rattle.plan_weekdates.proofs.RowLemmas.{instant_made}
use Rattle.plan_weekdates.proofs.cells.dated_in.Goals as goal

pub returns-in_ok-digits_of-in-Ok-clause-made : goal.returns-in_ok-digits_of-in-Ok-clause-made
returns-in_ok-digits_of-in-Ok-clause-made c =
    instant_made c.args.calendar.now c.args.column c.args.cell.now c.trim-text.result.now c.in-Ok.date c.instant_in.result c.in_ok-digits_of-in-Ok.field-0.items
    c.trim-text.ensures (sym c.begins_like_date.ensures ∙ c.if-not-begins_like_date.false) c.in-Ok.ensures.date c.instant_in.ensures c.in_ok-digits_of-in-Ok.ensures
