use Rattle.std.proofs.Common.{◌≡◌, refl, ap, sym, ◌∙◌, Some, []}
use Rattle.std.specs.Prelude.{option_map}
use Rattle.plan_rows.specs.Views.{view}
use Rattle.plan_desk.specs.BodyViews.{publish_in}
use Rattle.plan_desk.specs.Bodies.{publish_body}
use Rattle.plan_desk.specs.OfficeRoutes.{Publishes}
use Rattle.plan_desk.proofs.DecidingLemmas.{found_at_once, found_by}
use Rattle.plan_desk.proofs.RouteLemmas.{decides_kept, decides_made, publishes_nothing, publishes_other, publishes_made}
use Rattle.plan_desk.proofs.routes.office.publish_code.Goals as goal

pub returns-in_default : goal.returns-in_default
returns-in_default g c =
    let body = c.args.body.now in
    found_at_once g.B.Book.shelf _ c.args.book.now c.without_change.result
    (λ w. decides_kept [] [] (λ v. Publishes v.published body) (view [] w) c.without_change.result c.bad_body.result _ c.without_change.ensures.reply c.without_change.ensures.change c.bad_body.ensures
    (publishes_nothing w.published body (sym c.in_ok-body.ensures ∙ ap (option_map publish_in) c.in_default.is)))

pub returns-then-is_other_kind : goal.returns-then-is_other_kind
returns-then-is_other_kind g c =
    let body = c.args.body.now in
    let says : publish_body body ≡ Some (publish_in c.in-Some.body) = sym c.in_ok-body.ensures ∙ ap (option_map publish_in) c.in-Some.is in
    let d = c.without_change-then-is_other_kind in
    found_by g.B.Book.shelf _ _ c.args.book.now c.capacity.new.self c.in_ok-row.row d.result c.in_ok-row.ensures
    (λ is. decides_kept [] [] (λ v. Publishes v.published body)
    (view [] (g.B.Book.shelf.world c.args.book.now)) d.result c.kind_differs.result _ d.ensures.reply
    d.ensures.change c.kind_differs.ensures
    (publishes_other _ body _ _ says c.as_str.ensures.value (sym (c.is_other_kind.ensures _ is) ∙ c.if-is_other_kind.true)))

pub returns : goal.returns
returns g c =
    let body = c.args.body.now in
    let says : publish_body body ≡ Some (publish_in c.in-Some.body) = sym c.in_ok-body.ensures ∙ ap (option_map publish_in) c.in-Some.is in
    found_by g.B.Book.shelf _ _ c.args.book.now c.capacity.new.self c.in_ok-row.row _ c.in_ok-row.ensures
    (λ is. decides_made [] (λ v. Publishes v.published body) (view [] (g.B.Book.shelf.world c.args.book.now)) c.in_ok-code_answer.field-0 _ _ refl c.in_ok-code_answer.ensures
    (publishes_made _ body _ _ says c.as_str.ensures.value (sym (c.is_other_kind.ensures _ is) ∙ c.if-is_other_kind.false)))
