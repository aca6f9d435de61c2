use Rattle.std.proofs.Common.{subst, refl}
use Rattle.plan_rows.specs.Views.{view}
use Rattle.plan_desk.specs.PlanRoutes.{Removes}
use Rattle.plan_desk.specs.Lookup.{FindsPlan}
use Rattle.plan_desk.proofs.DecidingLemmas.{found_other}
use Rattle.plan_desk.proofs.RouteLemmas.{decides_kept, decides_made, removes_nothing, removes_made}
use Rattle.plan_desk.proofs.routes.plans.remove_plan.Goals as goal

pub returns-in_default : goal.returns-in_default
returns-in_default g c =
    let desk = c.args.desk.now in
    let text = c.args.number.now in
    found_other g.B.Book.shelf _ _ c.args.book.now c.find_plan.new.book c.in_ok-found.field-0 c.without_change.result c.in_ok-found.ensures
    (λ w is. decides_kept desk desk (λ v. Removes v text) (view desk w) c.without_change.result c.not_found.result _ c.without_change.ensures.reply c.without_change.ensures.change c.not_found.ensures
    (removes_nothing (view desk w) text (subst (FindsPlan (view desk w) text) c.in_default.is is)))

pub returns : goal.returns
returns g c =
    let desk = c.args.desk.now in
    let text = c.args.number.now in
    found_other g.B.Book.shelf _ _ c.args.book.now c.find_plan.new.book c.in_ok-found.field-0 _ c.in_ok-found.ensures
    (λ w is. let found = subst (FindsPlan (view desk w) text) c.in-Some.is is in
    decides_made desk (λ v. Removes v text) (view desk w) c.in_ok-number_answer.field-0 _ _ refl c.in_ok-number_answer.ensures
    (removes_made (view desk w) text found.row c.in-Some.found.n found.seen found.number))
