use Rattle.std.proofs.Common.{◌≡◌, Some, subst, refl, sym, ap, ◌∙◌}
use Rattle.std.specs.Prelude.{option_map}
use Rattle.plan_rows.specs.Views.{view}
use Rattle.plan_rows.specs.World.{code_in}
use Rattle.plan_desk.specs.BodyViews.{bind_body_in}
use Rattle.plan_desk.specs.Bodies.{bind_body}
use Rattle.plan_rows.specs.Plans.{is_place}
use Rattle.plan_rows.specs.Books.{Matches, IsCapacityAnswer}
use Rattle.plan_desk.specs.Replies.{reply_of}
use Rattle.plan_desk.specs.PlanRoutes.{Binds}
use Rattle.plan_desk.specs.Lookup.{FindsPlan}
use Rattle.plan_desk.proofs.DecidingLemmas.{found_by, found_other, found_more}
use Rattle.plan_desk.proofs.RouteLemmas.{decides_kept, decides_made}
use Rattle.plan_desk.proofs.FoundFileLemmas.{unread}
use Rattle.plan_desk.proofs.BindLemmas.{binds_nowhere, binds_nothing, binds_not, binds_so, judged_so}
use Rattle.plan_desk.proofs.routes.binds.bind_code.Goals as goal

pub returns-in_default : goal.returns-in_default
returns-in_default g c =
    let desk = c.args.desk.now in
    let text = c.args.number.now in
    let body = c.args.body.now in
    found_other g.B.Book.shelf _ _ c.args.book.now c.find_plan.new.book c.in_ok-found.field-0 c.without_change.result c.in_ok-found.ensures
    (λ w is. decides_kept desk desk (λ v. Binds v text body)
    (view desk w) c.without_change.result c.not_found.result _ c.without_change.ensures.reply
    c.without_change.ensures.change c.not_found.ensures
    (binds_nowhere (view desk w) text body (subst (FindsPlan (view desk w) text) c.in_default.is is)))

pub returns-in_err-count : goal.returns-in_err-count
returns-in_err-count g c =
    let desk = c.args.desk.now in
    let text = c.args.number.now in
    let shelf = g.B.Book.shelf in
    unread shelf _ desk text c.args.book.now c.find_plan.new.book c.in-Some.found c.in_err-count.field-0.0 _ g.met.B.Book.whole
    (found_other shelf _ (λ w. FindsPlan (view desk w) text) c.args.book.now c.find_plan.new.book c.in_ok-found.field-0 (Some c.in-Some.found) c.in_ok-found.ensures
    (λ w is. subst (FindsPlan (view desk w) text) c.in-Some.is is))
    c.in_err-count.ensures.blamed c.from_residual-in_err-count.ensures

pub returns-in_default-2 : goal.returns-in_default-2
returns-in_default-2 g c =
    let desk = c.args.desk.now in
    let text = c.args.number.now in
    let body = c.args.body.now in
    let d = c.without_change-in_default-2 in
    found_other g.B.Book.shelf _ _ c.args.book.now c.find_plan.new.book c.in_ok-found.field-0 d.result c.in_ok-found.ensures
    (λ w is. decides_kept desk desk (λ v. Binds v text body) (view desk w) d.result c.bad_body.result _ d.ensures.reply d.ensures.change c.bad_body.ensures
    (binds_nothing (view desk w) text body c.in-Some.found c.in_ok-count.count (subst (FindsPlan (view desk w) text) c.in-Some.is is) c.in_ok-count.ensures.said
    (sym c.in_ok-body.ensures ∙ ap (option_map bind_body_in) c.in_default-2.is)))

pub returns-in-Some-bind_refusal : goal.returns-in-Some-bind_refusal
returns-in-Some-bind_refusal g c =
    let desk = c.args.desk.now in
    let text = c.args.number.now in
    let body = c.args.body.now in
    let code = c.as_str.result.now in
    let shelf = g.B.Book.shelf in
    let plan = c.in-Some.found.plan in
    let b = bind_body_in c.in-Some-2.body in
    let d = c.without_change-in-Some-bind_refusal in
    let says : bind_body (is_place plan.kind c.in_ok-count.count) body ≡ Some b = sym c.in_ok-body.ensures ∙ ap (option_map bind_body_in) c.in-Some-2.is in
    let refused = sym c.bind_refusal.ensures ∙ ap (option_map reply_of) c.in-Some-bind_refusal.is in
    found_more shelf (λ w. FindsPlan (view desk w) text) (λ w row. Matches IsCapacityAnswer (code_in w.published code) row) _
    c.args.book.now c.find_plan.new.book c.capacity.new.self c.in_ok-found.field-0 c.in_ok-row.row d.result c.in_ok-found.ensures
    (found_by shelf _ _ c.find_plan.new.book c.capacity.new.self c.in_ok-row.row c.in_ok-row.row c.in_ok-row.ensures (λ is. is))
    (λ w is known. decides_kept desk desk (λ v. Binds v text body) (view desk w) d.result c.in-Some-bind_refusal.refusal _ d.ensures.reply d.ensures.change refl
    (binds_not (view desk w) text body code c.in-Some.found c.in_ok-count.count b c.in_ok-row.row (reply_of c.in-Some-bind_refusal.refusal)
    (subst (FindsPlan (view desk w) text) c.in-Some.is is) c.in_ok-count.ensures.said says c.as_str.ensures.value known
    (judged_so _ _ _ _ _ c.kind_alone.ensures c.code_kind.ensures refused)))

pub returns : goal.returns
returns g c =
    let desk = c.args.desk.now in
    let text = c.args.number.now in
    let body = c.args.body.now in
    let code = c.as_str.result.now in
    let shelf = g.B.Book.shelf in
    let plan = c.in-Some.found.plan in
    let b = bind_body_in c.in-Some-2.body in
    let says : bind_body (is_place plan.kind c.in_ok-count.count) body ≡ Some b = sym c.in_ok-body.ensures ∙ ap (option_map bind_body_in) c.in-Some-2.is in
    let passed = sym c.bind_refusal.ensures ∙ ap (option_map reply_of) c.in_default-bind_refusal.is in
    found_more shelf (λ w. FindsPlan (view desk w) text) (λ w row. Matches IsCapacityAnswer (code_in w.published code) row) _
    c.args.book.now c.find_plan.new.book c.capacity.new.self c.in_ok-found.field-0 c.in_ok-row.row _ c.in_ok-found.ensures
    (found_by shelf _ _ c.find_plan.new.book c.capacity.new.self c.in_ok-row.row c.in_ok-row.row c.in_ok-row.ensures (λ is. is))
    (λ w is known. decides_made desk (λ v. Binds v text body) (view desk w) c.in_ok-bind_answer.field-0 _ _ refl c.in_ok-bind_answer.ensures
    (binds_so (view desk w) text body code c.in-Some.found c.in_ok-count.count b c.in_ok-row.row
    (subst (FindsPlan (view desk w) text) c.in-Some.is is) c.in_ok-count.ensures.said says c.as_str.ensures.value known
    (judged_so _ _ _ _ _ c.kind_alone.ensures c.code_kind.ensures passed)))
