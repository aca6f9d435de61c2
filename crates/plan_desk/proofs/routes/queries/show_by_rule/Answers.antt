use Rattle.std.proofs.Common.{subst}
use Rattle.plan_rows.specs.Views.{view}
use Rattle.plan_desk.specs.RulePages.{ByRule}
use Rattle.plan_desk.specs.Pages.{IsBound}
use Rattle.plan_desk.specs.Lookup.{FindsBound}
use Rattle.plan_desk.proofs.DecidingLemmas.{found_other}
use Rattle.plan_desk.proofs.RouteLemmas.{decides_kept}
use Rattle.plan_desk.proofs.PagedLemmas.{page_found, page_lost, none_by_rule}
use Rattle.plan_desk.proofs.routes.queries.show_by_rule.Goals as goal

pub returns-in_default : goal.returns-in_default
returns-in_default g c =
    let desk = c.args.desk.now in
    let text = c.args.number.now in
    found_other g.B.Book.shelf _ _ c.args.book.now c.find_bound.new.book c.in_ok-bound.field-0 c.without_change.result c.in_ok-bound.ensures
    (λ w is. decides_kept desk desk (λ v. ByRule c.args.page v text c.args.rule.now)
    (view desk w) c.without_change.result c.not_found.result _ c.without_change.ensures.reply
    c.without_change.ensures.change c.not_found.ensures
    (none_by_rule c.args.page (view desk w) text c.args.rule.now (subst (FindsBound (view desk w) text) c.in_default.is is)))

pub returns-in_err-reply : goal.returns-in_err-reply
returns-in_err-reply g c =
    let desk = c.args.desk.now in
    let text = c.args.number.now in
    page_lost g.B.Book.shelf desk text (λ v n. IsBound v n c.in-Some.bound)
    (λ v n. ByRule c.args.page v n c.args.rule.now) _ _ c.args.book.now c.find_bound.new.book
    c.in_ok-bound.field-0 _ _ (g.met.B.Book.whole c.find_bound.new.book) c.in_ok-bound.ensures
    (λ w is. subst (FindsBound (view desk w) text) c.in-Some.is is) c.in_err-reply.ensures c.from_residual-in_err-reply.ensures

pub returns : goal.returns
returns g c =
    let desk = c.args.desk.now in
    let text = c.args.number.now in
    page_found g.B.Book.shelf desk text (λ v n. IsBound v n c.in-Some.bound)
    (λ v n. ByRule c.args.page v n c.args.rule.now) _ c.args.book.now c.find_bound.new.book
    c.in_ok-bound.field-0 _ _ c.in_ok-bound.ensures
    (λ w is. subst (FindsBound (view desk w) text) c.in-Some.is is) c.in_ok-reply.ensures c.without_change-2.ensures.reply c.without_change-2.ensures.change
