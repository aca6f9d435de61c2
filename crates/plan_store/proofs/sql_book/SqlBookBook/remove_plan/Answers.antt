use Rattle.std.proofs.Common.{subst}
use Rattle.plan_rows.specs.Books.{Writes}
use Rattle.plan_rows.specs.Changes.{apply, RemovePlan}
use Rattle.plan_store.specs.SqlBooks.{Counted, sql_shelf}
use Rattle.plan_store.proofs.BookLemmas.{writes_from}
use Rattle.plan_store.proofs.sql_book.SqlBookBook.remove_plan.Goals as goal

pub returns : goal.returns
returns g c =
    let at = c.self.inside in
    let change = apply c.args.desk.now (RemovePlan c.args.n) in
    let was : Counted g.row.S.Denot = record { conn = at.conn; made = at.calls.made; refused = at.calls.refused; denials = at.denials.refused } in
    let now : Counted g.row.S.Denot = record {
      conn = c.remove_plan_in-answer.new.conn;
      made =
          c.count-counted.new.self.made;
      refused = c.count-counted.new.self.refused;
      denials =
          c.note.new.self.refused;
    } in
    subst (λ old. Writes (sql_shelf g.S.Store) old now c.note.result change) c.self.view_is
    (writes_from g.S.Store was now c.self.invariant.ready change c.remove_plan_in-answer.result
    c.count-counted.result c.note.result c.count-counted.ensures.answer c.note.ensures.answer
    c.remove_plan_in-answer.ensures.changes
    c.count-counted.ensures.made c.count-counted.ensures.refused (record { told = c.note.ensures.told; wanted = c.note.ensures.wanted; denied = c.note.ensures.denied }))
