use Rattle.std.proofs.Common.{◌≡◌, Some, subst, refl, sym, ap, ◌∙◌}
use Rattle.std.specs.Prelude.{option_map}
use Rattle.plan_rows.specs.Views.{view}
use Rattle.plan_desk.specs.BodyViews.{calendar_in}
use Rattle.plan_desk.specs.Bodies.{calendar_body}
use Rattle.plan_desk.specs.PlanRoutes.{Calendars}
use Rattle.plan_desk.specs.Lookup.{FindsPlan}
use Rattle.plan_desk.proofs.DecidingLemmas.{found_other}
use Rattle.plan_desk.proofs.RouteLemmas.{decides_kept, decides_made}
use Rattle.plan_desk.proofs.BindLemmas.{calendars_nowhere, calendars_nothing, calendars_refused, calendars_made}
use Rattle.plan_desk.proofs.routes.binds.set_calendar.Goals as goal

pub returns-in_default : goal.returns-in_default
returns-in_default g c =
    let desk = c.args.desk.now in
    let text = c.args.number.now in
    let body = c.args.body.now in
    found_other g.B.Book.shelf _ _ c.args.book.now c.find_plan.new.book c.in_ok-found.field-0 c.without_change.result c.in_ok-found.ensures
    (λ w is. decides_kept desk desk (λ v. Calendars v text body)
    (view desk w) c.without_change.result c.not_found.result _ c.without_change.ensures.reply
    c.without_change.ensures.change c.not_found.ensures
    (calendars_nowhere (view desk w) text body (subst (FindsPlan (view desk w) text) c.in_default.is is)))

pub returns-in_default-2 : goal.returns-in_default-2
returns-in_default-2 g c =
    let desk = c.args.desk.now in
    let text = c.args.number.now in
    let body = c.args.body.now in
    let d = c.without_change-in_default-2 in
    found_other g.B.Book.shelf _ _ c.args.book.now c.find_plan.new.book c.in_ok-found.field-0 d.result c.in_ok-found.ensures
    (λ w is. decides_kept desk desk (λ v. Calendars v text body) (view desk w) d.result c.bad_body.result _ d.ensures.reply d.ensures.change c.bad_body.ensures
    (calendars_nothing (view desk w) text body c.in-Some.found (subst (FindsPlan (view desk w) text) c.in-Some.is is)
    (sym c.in_ok-body.ensures ∙ ap (option_map calendar_in) c.in_default-2.is)))

pub returns-in-Err : goal.returns-in-Err
returns-in-Err g c =
    let desk = c.args.desk.now in
    let text = c.args.number.now in
    let body = c.args.body.now in
    let d = c.without_change-in-Err in
    let says : calendar_body body ≡ Some (calendar_in c.in-Some-2.body) = sym c.in_ok-body.ensures ∙ ap (option_map calendar_in) c.in-Some-2.is in
    found_other g.B.Book.shelf _ _ c.args.book.now c.find_plan.new.book c.in_ok-found.field-0 d.result c.in_ok-found.ensures
    (λ w is. decides_kept desk desk (λ v. Calendars v text body) (view desk w) d.result c.in_ok-bad_calendar.field-0 _ d.ensures.reply d.ensures.change c.in_ok-bad_calendar.ensures
    (calendars_refused (view desk w) text body _ _ _ c.in-Some.found (calendar_in c.in-Some-2.body) c.in-Err.fault (subst (FindsPlan (view desk w) text) c.in-Some.is is)
    says c.as_str.ensures.value c.as_str-2.ensures.value c.in-Err.ensures.refused c.calendar_fault_text.ensures.text))

pub returns : goal.returns
returns g c =
    let desk = c.args.desk.now in
    let text = c.args.number.now in
    let body = c.args.body.now in
    let says : calendar_body body ≡ Some (calendar_in c.in-Some-2.body) = sym c.in_ok-body.ensures ∙ ap (option_map calendar_in) c.in-Some-2.is in
    found_other g.B.Book.shelf _ _ c.args.book.now c.find_plan.new.book c.in_ok-found.field-0 _ c.in_ok-found.ensures
    (λ w is. decides_made desk (λ v. Calendars v text body) (view desk w) c.in_ok-calendar_answer.field-0 _ _ refl c.in_ok-calendar_answer.ensures
    (calendars_made (view desk w) text body _ _ c.in-Some.found (calendar_in c.in-Some-2.body) _ (subst (FindsPlan (view desk w) text) c.in-Some.is is)
    says c.as_str.ensures.value c.as_str-2.ensures.value c.in_default-new.ensures.ok))
