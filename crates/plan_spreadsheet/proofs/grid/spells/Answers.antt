use Rattle.std.proofs.Common.{map, sym, ap, ◌∙◌}
use Rattle.plan_table.specs.Csv.{row_of}
use Rattle.plan_spreadsheet.specs.Rows.{filled}
use Rattle.plan_spreadsheet.proofs.RowLemmas.{spelt}
use Rattle.plan_spreadsheet.proofs.SpellingLemmas.{unspelt}
use Rattle.plan_spreadsheet.proofs.grid.spells.Goals as goal

pub returns-in-Ok-clause-yes : goal.returns-in-Ok-clause-yes
returns-in-Ok-clause-yes c = λ right.
    spelt c.args.text.now (map row_of c.in-Ok.found.items) (map row_of c.deref-in-Ok.result.now) (map row_of c.args.rows.now)
    c.in-Ok.ensures
    (ap (map row_of) c.deref-in-Ok.ensures.value ∙ c.in_ok-found-in-Ok.ensures ∙ ap (λ rows. filled (map row_of rows)) c.deref.ensures.value)
    (sym c.same_rows.ensures ∙ right)

pub returns-in-Ok-clause-no : goal.returns-in-Ok-clause-no
returns-in-Ok-clause-no c = λ wrong spells.
    unspelt c.args.text.now (map row_of c.in-Ok.found.items) (map row_of c.deref-in-Ok.result.now) (map row_of c.args.rows.now)
    c.in-Ok.ensures
    (ap (map row_of) c.deref-in-Ok.ensures.value ∙ c.in_ok-found-in-Ok.ensures ∙ ap (λ rows. filled (map row_of rows)) c.deref.ensures.value)
    (sym c.same_rows.ensures ∙ wrong) spells
