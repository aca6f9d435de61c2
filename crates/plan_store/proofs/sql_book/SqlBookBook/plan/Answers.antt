use Rattle.std.proofs.Common.{refl, subst}
use Rattle.std.specs.Prelude.{find}
use Rattle.plan_rows.specs.Views.{view}
use Rattle.plan_rows.specs.Plans.{has_number}
use Rattle.plan_rows.specs.Books.{Reads, Matches, IsPlanAnswer}
use Rattle.plan_store.specs.SqlBooks.{Counted, sql_shelf}
use Rattle.plan_store.proofs.BookLemmas.{reads_from}
use Rattle.sqlite.specs.Held.{state}
use Rattle.plan_store.proofs.KeptLemmas.{served_asked}
use Rattle.plan_store.proofs.sql_book.SqlBookBook.plan.Goals as goal

pub returns : goal.returns
returns g c =
    let at = c.self.inside in
    let was : Counted g.row.S.Denot = record { conn = at.conn; made = at.calls.made; refused = at.calls.refused; denials = at.denials.refused } in
    let now : Counted g.row.S.Denot = record { conn = c.find_plan-answer.new.conn; made = at.calls.made; refused = at.calls.refused; denials = c.note.new.self.refused } in
    subst (λ old. Reads (sql_shelf g.S.Store) old now c.note.result
    (Matches (IsPlanAnswer (view c.args.desk.now ((sql_shelf g.S.Store).world old)))
    (find (has_number c.args.n) (view c.args.desk.now ((sql_shelf g.S.Store).world old)).plans)))
    c.self.view_is
    (reads_from g.S.Store was now c.self.invariant.ready c.find_plan-answer.result c.note.result _ c.note.ensures.answer c.find_plan-answer.ensures refl refl
    (record { told = c.note.ensures.told; wanted = c.note.ensures.wanted; denied = c.note.ensures.denied }))

pub invariant_of-self : goal.invariant_of-self
invariant_of-self g c =
    served_asked (state g.S.Store c.self.inside.conn) (state g.S.Store c.find_plan-answer.new.conn) c.self.inside.next_plan c.self.inside.kept_plans
    c.find_plan-answer.result _ c.find_plan-answer.ensures c.self.invariant
