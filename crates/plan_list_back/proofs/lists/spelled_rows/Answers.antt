use Rattle.std.proofs.Common.{ℕ, List, map, sym, ◌∙◌, subst}
use Rattle.plan_table.specs.Csv.{row_of}
use Rattle.plan_spreadsheet.specs.Rows.{Spells}
use Rattle.plan_list_back.specs.Texts.{text_with}
use Rattle.plan_list_back.proofs.ListBackLemmas.{unwritten}
use Rattle.plan_list_back.proofs.lists.spelled_rows.Goals as goal

pub returns-then-not-right-clause-refused : goal.returns-then-not-right-clause-refused
returns-then-not-right-clause-refused c =
    let rows = map row_of c.args.rows.now in
    unwritten c.deref-then-not-right.result.now (text_with c.args.bytes.now c.args.text.now rows) rows c.unread.result
    (c.deref-then-not-right.ensures.value ∙ c.in_ok-made.ensures)
    (λ spells. c.in_ok-right.ensures.no c.if-not-right.true
    (subst (λ (t : List ℕ). Spells t rows) (c.deref-then-not-right.ensures.value ∙ sym c.deref.ensures.value) spells))
    c.unread.ensures
