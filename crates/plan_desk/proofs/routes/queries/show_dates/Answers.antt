use Rattle.std.proofs.Common.{subst}
use Rattle.plan_rows.specs.Views.{view}
use Rattle.plan_desk.specs.PageRoutes.{Dates}
use Rattle.plan_desk.specs.Pages.{IsFound}
use Rattle.plan_desk.specs.Lookup.{FindsPlan}
use Rattle.plan_desk.proofs.DecidingLemmas.{found_other}
use Rattle.plan_desk.proofs.RouteLemmas.{decides_kept}
use Rattle.plan_desk.proofs.PagedLemmas.{found_is, page_found, page_lost, no_dates}
use Rattle.plan_desk.proofs.routes.queries.show_dates.Goals as goal

pub returns-in_default : goal.returns-in_default
returns-in_default g c =
    let desk = c.args.desk.now in
    let text = c.args.number.now in
    found_other g.B.Book.shelf _ _ c.args.book.now c.find_plan.new.book c.in_ok-found.field-0 c.without_change.result c.in_ok-found.ensures
    (λ w is. decides_kept desk desk (λ v. Dates v text) (view desk w) c.without_change.result c.not_found.result _ c.without_change.ensures.reply c.without_change.ensures.change c.not_found.ensures
    (no_dates (view desk w) text (subst (FindsPlan (view desk w) text) c.in_default.is is)))

pub returns-in_err-reply : goal.returns-in_err-reply
returns-in_err-reply g c =
    let desk = c.args.desk.now in
    let text = c.args.number.now in
    page_lost g.B.Book.shelf desk text (λ v n. IsFound v n c.in-Some.found.plan)
    (λ v n. Dates v n) _ _ c.args.book.now c.find_plan.new.book c.in_ok-found.field-0 _ _
    (g.met.B.Book.whole c.find_plan.new.book) c.in_ok-found.ensures
    (λ w is. found_is (view desk w) text c.in-Some.found (subst (FindsPlan (view desk w) text) c.in-Some.is is)) c.in_err-reply.ensures c.from_residual-in_err-reply.ensures

pub returns : goal.returns
returns g c =
    let desk = c.args.desk.now in
    let text = c.args.number.now in
    page_found g.B.Book.shelf desk text (λ v n. IsFound v n c.in-Some.found.plan) (λ v n. Dates v n) _ c.args.book.now c.find_plan.new.book c.in_ok-found.field-0 _ _ c.in_ok-found.ensures
    (λ w is. found_is (view desk w) text c.in-Some.found
    (subst (FindsPlan (view desk w) text) c.in-Some.is is)) c.in_ok-reply.ensures
    c.without_change-2.ensures.reply c.without_change-2.ensures.change
