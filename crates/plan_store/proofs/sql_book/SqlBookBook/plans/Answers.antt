use Rattle.std.proofs.Common.{refl, subst}
use Rattle.plan_rows.specs.Views.{view}
use Rattle.plan_rows.specs.Books.{Reads, ListsPlans}
use Rattle.plan_store.specs.SqlBooks.{Counted, sql_shelf}
use Rattle.plan_store.proofs.BookLemmas.{reads_from}
use Rattle.sqlite.specs.Held.{state}
use Rattle.plan_store.proofs.KeptLemmas.{served_asked}
use Rattle.plan_store.proofs.sql_book.SqlBookBook.plans.Goals as goal

pub returns : goal.returns
returns g c =
    let at = c.self.inside in
    let was : Counted g.row.S.Denot = record { conn = at.conn; made = at.calls.made; refused = at.calls.refused; denials = at.denials.refused } in
    let now : Counted g.row.S.Denot = record { conn = c.list_plans-answer.new.conn; made = at.calls.made; refused = at.calls.refused; denials = c.note.new.self.refused } in
    subst (λ old. Reads (sql_shelf g.S.Store) old now c.note.result (λ rows. ListsPlans (view c.args.desk.now ((sql_shelf g.S.Store).world old)).plans rows.items)) c.self.view_is
    (reads_from g.S.Store was now c.self.invariant.ready c.list_plans-answer.result c.note.result _ c.note.ensures.answer c.list_plans-answer.ensures refl refl
    (record { told = c.note.ensures.told; wanted = c.note.ensures.wanted; denied = c.note.ensures.denied }))

pub invariant_of-self : goal.invariant_of-self
invariant_of-self g c =
    served_asked (state g.S.Store c.self.inside.conn) (state g.S.Store c.list_plans-answer.new.conn) c.self.inside.next_plan c.self.inside.kept_plans
    c.list_plans-answer.result _ c.list_plans-answer.ensures c.self.invariant
