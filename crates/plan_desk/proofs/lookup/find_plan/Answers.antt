use Rattle.std.proofs.Common.{sym, ap, ◌∙◌, subst, None}
use Rattle.plan_rows.specs.Views.{view}
use Rattle.plan_rows.specs.Books.{Matches}
use Rattle.plan_desk.specs.Lookup.{FindsPlan}
use Rattle.plan_rows.specs.Plans.{plan_number}
use Rattle.plan_desk.proofs.DecidingLemmas.{found_by, plan_there, plan_missing}
use Rattle.plan_desk.proofs.lookup.find_plan.Goals as goal

pub returns-in-Some-2 : goal.returns-in-Some-2
returns-in-Some-2 g c =
    found_by g.B.Book.shelf (λ w. FindsPlan (view c.args.desk.now w) c.args.number.now) _ _ _ _ _ c.in_ok-plan.ensures
    (λ is. plan_there (view c.args.desk.now (g.B.Book.shelf.world c.args.book.now)) _ c.in-Some.n
    c.in-Some-2.plan (sym c.in-Some.is ∙ c.plan_number.ensures ∙ ap plan_number c.as_bytes.ensures.value)
    (subst (Matches _ _) c.in-Some-2.is is))

pub returns-in-None : goal.returns-in-None
returns-in-None g c =
    found_by g.B.Book.shelf (λ w. FindsPlan (view c.args.desk.now w) c.args.number.now) _ _ _ _ None c.in_ok-plan.ensures
    (λ is. plan_missing (view c.args.desk.now (g.B.Book.shelf.world c.args.book.now)) c.args.number.now c.in-Some.n
    (sym c.in-Some.is ∙ c.plan_number.ensures ∙ ap plan_number c.as_bytes.ensures.value) (subst (Matches _ _) c.in-None.is is))
