use Rattle.std.proofs.Common.{◌≡◌, Some, subst, refl, sym, ap, ◌∙◌}
use Rattle.std.specs.Prelude.{option_map}
use Rattle.plan_rows.specs.Views.{view}
use Rattle.plan_desk.specs.BodyViews.{lag_body_in}
use Rattle.plan_desk.specs.Bodies.{lag_body}
use Rattle.plan_desk.specs.Replies.{reply_of}
use Rattle.plan_desk.specs.RouteRefusals.{lag_refusal_of}
use Rattle.plan_desk.specs.PlanRoutes.{SetsLag}
use Rattle.plan_desk.specs.Lookup.{FindsPlan}
use Rattle.plan_desk.proofs.DecidingLemmas.{found_other, short_of_memory}
use Rattle.plan_desk.proofs.RouteLemmas.{decides_kept, decides_made}
use Rattle.plan_desk.proofs.FoundFileLemmas.{unread}
use Rattle.plan_desk.proofs.BindLemmas.{sets_lag_nowhere, sets_lag_nothing, sets_lag_not, sets_lag_so}
use Rattle.plan_desk.proofs.routes.binds.set_lag.Goals as goal

pub returns-in_default : goal.returns-in_default
returns-in_default g c =
    let desk = c.args.desk.now in
    let text = c.args.number.now in
    let body = c.args.body.now in
    found_other g.B.Book.shelf _ _ c.args.book.now c.find_plan.new.book c.in_ok-found.field-0 c.without_change.result c.in_ok-found.ensures
    (λ w is. decides_kept desk desk (λ v. SetsLag v text body)
    (view desk w) c.without_change.result c.not_found.result _ c.without_change.ensures.reply
    c.without_change.ensures.change c.not_found.ensures
    (sets_lag_nowhere (view desk w) text body (subst (FindsPlan (view desk w) text) c.in_default.is is)))

pub returns-in_default-2 : goal.returns-in_default-2
returns-in_default-2 g c =
    let desk = c.args.desk.now in
    let text = c.args.number.now in
    let body = c.args.body.now in
    let d = c.without_change-in_default-2 in
    found_other g.B.Book.shelf _ _ c.args.book.now c.find_plan.new.book c.in_ok-found.field-0 d.result c.in_ok-found.ensures
    (λ w is. decides_kept desk desk (λ v. SetsLag v text body) (view desk w) d.result c.bad_body.result _ d.ensures.reply d.ensures.change c.bad_body.ensures
    (sets_lag_nothing (view desk w) text body c.in-Some.found (subst (FindsPlan (view desk w) text) c.in-Some.is is)
    (sym c.in_ok-body.ensures ∙ ap (option_map lag_body_in) c.in_default-2.is)))

pub returns-in_err-project : goal.returns-in_err-project
returns-in_err-project g c =
    let desk = c.args.desk.now in
    let text = c.args.number.now in
    let shelf = g.B.Book.shelf in
    unread shelf _ desk text c.args.book.now c.find_plan.new.book c.in-Some.found c.in_err-project.field-0.0 _ g.met.B.Book.whole
    (found_other shelf _ (λ w. FindsPlan (view desk w) text) c.args.book.now c.find_plan.new.book c.in_ok-found.field-0 (Some c.in-Some.found) c.in_ok-found.ensures
    (λ w is. subst (FindsPlan (view desk w) text) c.in-Some.is is))
    c.in_err-project.ensures.blamed c.from_residual-in_err-project.ensures

pub returns-in-Some-lag_refusal : goal.returns-in-Some-lag_refusal
returns-in-Some-lag_refusal g c =
    let desk = c.args.desk.now in
    let text = c.args.number.now in
    let body = c.args.body.now in
    let d = c.without_change-in-Some-lag_refusal in
    let says : lag_body body ≡ Some (lag_body_in c.in-Some-2.body) = sym c.in_ok-body.ensures ∙ ap (option_map lag_body_in) c.in-Some-2.is in
    let refused = sym c.lag_refusal.ensures ∙ ap (option_map reply_of) c.in-Some-lag_refusal.is in
    found_other g.B.Book.shelf _ _ c.args.book.now c.find_plan.new.book c.in_ok-found.field-0 d.result c.in_ok-found.ensures
    (λ w is. decides_kept desk desk (λ v. SetsLag v text body) (view desk w) d.result c.in-Some-lag_refusal.refusal _ d.ensures.reply d.ensures.change refl
    (sets_lag_not (view desk w) text body c.in-Some.found c.in_ok-project.project (lag_body_in c.in-Some-2.body) (reply_of c.in-Some-lag_refusal.refusal)
    (subst (FindsPlan (view desk w) text) c.in-Some.is is) c.in_ok-project.ensures.said says
    (ap (lag_refusal_of (lag_body_in c.in-Some-2.body)) (sym c.as_ref.ensures.value) ∙ refused)))

pub returns-in_err-lag_answer : goal.returns-in_err-lag_answer
returns-in_err-lag_answer g c =
    short_of_memory g.B.Book.shelf _ c.args.book.now c.find_plan.new.book _ c.in_ok-found.ensures.quiet c.in_ok-found.ensures.told c.from_residual-in_err-lag_answer.ensures

pub returns : goal.returns
returns g c =
    let desk = c.args.desk.now in
    let text = c.args.number.now in
    let body = c.args.body.now in
    let says : lag_body body ≡ Some (lag_body_in c.in-Some-2.body) = sym c.in_ok-body.ensures ∙ ap (option_map lag_body_in) c.in-Some-2.is in
    let passed = sym c.lag_refusal.ensures ∙ ap (option_map reply_of) c.in_default-lag_refusal.is in
    found_other g.B.Book.shelf _ _ c.args.book.now c.find_plan.new.book c.in_ok-found.field-0 _ c.in_ok-found.ensures
    (λ w is. decides_made desk (λ v. SetsLag v text body) (view desk w) c.in_ok-lag_answer.field-0 _ _ refl c.in_ok-lag_answer.ensures
    (sets_lag_so (view desk w) text body c.in-Some.found c.in_ok-project.project (lag_body_in c.in-Some-2.body)
    (subst (FindsPlan (view desk w) text) c.in-Some.is is) c.in_ok-project.ensures.said says
    (ap (lag_refusal_of (lag_body_in c.in-Some-2.body)) (sym c.as_ref.ensures.value) ∙ passed)))
