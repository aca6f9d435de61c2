use Rattle.std.proofs.Common.{subst}
use Rattle.plan_rows.specs.Views.{view}
use Rattle.plan_desk.specs.BestRoutes.{Best}
use Rattle.plan_desk.specs.Pages.{IsBound}
use Rattle.plan_desk.specs.Lookup.{FindsBound}
use Rattle.plan_desk.proofs.DecidingLemmas.{found_other}
use Rattle.plan_desk.proofs.RouteLemmas.{decides_kept}
use Rattle.plan_desk.proofs.PagedLemmas.{page_found, page_lost, no_best}
use Rattle.plan_desk.proofs.routes.queries.show_best.Goals as goal

pub returns-in_default : goal.returns-in_default
returns-in_default g c =
    let desk = c.args.desk.now in
    let text = c.args.number.now in
    found_other g.B.Book.shelf _ _ c.args.book.now c.find_bound.new.book c.in_ok-bound.field-0 c.without_change.result c.in_ok-bound.ensures
    (λ w is. decides_kept desk desk (λ v. Best v text c.args.budget.now)
    (view desk w) c.without_change.result c.not_found.result _ c.without_change.ensures.reply
    c.without_change.ensures.change c.not_found.ensures
    (no_best (view desk w) text c.args.budget.now (subst (FindsBound (view desk w) text) c.in_default.is is)))

pub returns-in_err-reply : goal.returns-in_err-reply
returns-in_err-reply g c =
    let desk = c.args.desk.now in
    let text = c.args.number.now in
    page_lost g.B.Book.shelf desk text (λ v n. IsBound v n c.in-Some.bound)
    (λ v n. Best v n c.args.budget.now) _ _ c.args.book.now c.find_bound.new.book c.in_ok-bound.field-0 _
    _ (g.met.B.Book.whole c.find_bound.new.book) c.in_ok-bound.ensures
    (λ w is. subst (FindsBound (view desk w) text) c.in-Some.is is) c.in_err-reply.ensures c.from_residual-in_err-reply.ensures

pub returns : goal.returns
returns g c =
    let desk = c.args.desk.now in
    let text = c.args.number.now in
    page_found g.B.Book.shelf desk text (λ v n. IsBound v n c.in-Some.bound) (λ v n. Best v n c.args.budget.now) _ c.args.book.now c.find_bound.new.book c.in_ok-bound.field-0 _ _ c.in_ok-bound.ensures
    (λ w is. subst (FindsBound (view desk w) text) c.in-Some.is is) c.in_ok-reply.ensures c.without_change-2.ensures.reply c.without_change-2.ensures.change
