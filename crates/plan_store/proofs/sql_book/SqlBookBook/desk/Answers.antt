use Rattle.std.proofs.Common.{refl, subst}
use Rattle.plan_rows.specs.World.{desk_in}
use Rattle.plan_rows.specs.Books.{Reads, Matches, IsDeskAnswer}
use Rattle.plan_store.specs.SqlBooks.{Counted, sql_shelf}
use Rattle.plan_store.proofs.BookLemmas.{reads_from}
use Rattle.plan_store.proofs.sql_book.SqlBookBook.desk.Goals as goal

pub returns : goal.returns
returns g c =
    let at = c.self.inside in
    let was : Counted g.row.S.Denot = record { conn = at.conn; made = at.calls.made; refused = at.calls.refused; denials = at.denials.refused } in
    let now : Counted g.row.S.Denot = record { conn = c.find_desk-answer.new.conn; made = at.calls.made; refused = at.calls.refused; denials = c.note.new.self.refused } in
    subst (λ old. Reads (sql_shelf g.S.Store) old now c.note.result (Matches IsDeskAnswer (desk_in ((sql_shelf g.S.Store).world old) c.args.name.now))) c.self.view_is
    (reads_from g.S.Store was now c.self.invariant.ready c.find_desk-answer.result c.note.result _ c.note.ensures.answer c.find_desk-answer.ensures refl refl
    (record { told = c.note.ensures.told; wanted = c.note.ensures.wanted; denied = c.note.ensures.denied }))
