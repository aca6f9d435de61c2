use Rattle.std.proofs.Common.{subst}
use Rattle.plan_rows.specs.Books.{Writes}
use Rattle.plan_rows.specs.Changes.{apply, SetCalendar}
use Rattle.plan_store.specs.SqlBooks.{Counted, sql_shelf}
use Rattle.plan_store.proofs.BookLemmas.{writes_from}
use Rattle.sqlite.specs.Held.{state}
use Rattle.plan_store.proofs.KeptLemmas.{keys_calendar, served_changed}
use Rattle.plan_store.proofs.sql_book.SqlBookBook.set_calendar.Goals as goal

pub returns : goal.returns
returns g c =
    let at = c.self.inside in
    let change = apply c.args.desk.now (SetCalendar c.args.n c.args.start.now c.args.days.now) in
    let was : Counted g.row.S.Denot = record { conn = at.conn; made = at.calls.made; refused = at.calls.refused; denials = at.denials.refused } in
    let now : Counted g.row.S.Denot = record {
      conn = c.set_calendar_in-answer.new.conn;
      made =
          c.count-counted.new.self.made;
      refused = c.count-counted.new.self.refused;
      denials =
          c.note.new.self.refused;
    } in
    subst (λ old. Writes (sql_shelf g.S.Store) old now c.note.result change) c.self.view_is
    (writes_from g.S.Store was now c.self.invariant.ready change c.set_calendar_in-answer.result
    c.count-counted.result c.note.result c.count-counted.ensures.answer c.note.ensures.answer
    c.set_calendar_in-answer.ensures
    c.count-counted.ensures.made c.count-counted.ensures.refused (record { told = c.note.ensures.told; wanted = c.note.ensures.wanted; denied = c.note.ensures.denied }))

pub invariant_of-self : goal.invariant_of-self
invariant_of-self g c =
    served_changed (state g.S.Store c.self.inside.conn) (state g.S.Store c.set_calendar_in-answer.new.conn) (apply c.args.desk.now (SetCalendar c.args.n c.args.start.now c.args.days.now)) (λ w desk. keys_calendar c.args.desk.now c.args.n c.args.start.now c.args.days.now desk w.plans)
    c.self.inside.next_plan c.self.inside.kept_plans c.set_calendar_in-answer.result c.set_calendar_in-answer.ensures c.self.invariant
