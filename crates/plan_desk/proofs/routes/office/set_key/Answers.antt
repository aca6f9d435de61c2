use Rattle.std.proofs.Common.{◌≡◌, refl, ap, sym, ◌∙◌, Some}
use Rattle.std.specs.Prelude.{option_map, string_bytes}
use Rattle.plan_rows.specs.Names.{key_digest_of}
use Rattle.plan_rows.specs.Views.{view}
use Rattle.plan_desk.specs.Bodies.{key_body}
use Rattle.plan_desk.specs.OfficeRoutes.{SetsKey}
use Rattle.plan_desk.proofs.FitLemmas.{key_says}
use Rattle.plan_desk.proofs.DecidingLemmas.{found_by}
use Rattle.plan_desk.proofs.RouteLemmas.{decides_kept, decides_made, has_digest, digest_of_key, desk_absent, desk_there, sets_key_nowhere, sets_no_key, sets_key_by}
use Rattle.plan_desk.proofs.routes.office.set_key.Goals as goal

pub returns-then-is_none : goal.returns-then-is_none
returns-then-is_none g c =
    let desk = c.args.desk.now in
    let body = c.args.body.now in
    let w = g.B.Book.shelf.world c.args.book.now in
    found_by g.B.Book.shelf _ _ c.args.book.now c.desk.new.self c.in_ok-desk.field-0 c.without_change.result c.in_ok-desk.ensures
    (λ is. decides_kept desk desk (λ v. SetsKey v desk body)
    (view desk w) c.without_change.result c.not_found.result _ c.without_change.ensures.reply
    c.without_change.ensures.change c.not_found.ensures
    (sets_key_nowhere (view desk w) desk body (desk_absent w desk _ is c.if-is_none.ensures)))

pub returns-in_default : goal.returns-in_default
returns-in_default g c =
    let desk = c.args.desk.now in
    let body = c.args.body.now in
    let w = g.B.Book.shelf.world c.args.book.now in
    let d = c.without_change-in_default in
    found_by g.B.Book.shelf _ _ c.args.book.now c.desk.new.self c.in_ok-desk.field-0 d.result c.in_ok-desk.ensures
    (λ is. decides_kept desk desk (λ v. SetsKey v desk body) (view desk w) d.result c.bad_body.result _ d.ensures.reply d.ensures.change c.bad_body.ensures
    (sets_no_key (view desk w) desk body (desk_there w desk _ is c.if-is_none.ensures) (sym c.in_ok-key.ensures ∙ ap (option_map string_bytes) c.in_default.is)))

pub returns-in_default-key_digest : goal.returns-in_default-key_digest
returns-in_default-key_digest g c =
    let says : key_body c.args.body.now ≡ Some (string_bytes c.in-Some.key) = sym c.in_ok-key.ensures ∙ ap (option_map string_bytes) c.in-Some.is in
    absurd (has_digest (string_bytes c.in-Some.key) c.key_digest.result (key_says c.args.body.now _ says)
    (c.key_digest.ensures ∙ ap key_digest_of c.as_bytes.ensures.value) c.in_default-key_digest.is)

pub returns : goal.returns
returns g c =
    let desk = c.args.desk.now in
    let body = c.args.body.now in
    let w = g.B.Book.shelf.world c.args.book.now in
    let says : key_body body ≡ Some (string_bytes c.in-Some.key) = sym c.in_ok-key.ensures ∙ ap (option_map string_bytes) c.in-Some.is in
    found_by g.B.Book.shelf _ _ c.args.book.now c.desk.new.self c.in_ok-desk.field-0 _ c.in_ok-desk.ensures
    (λ is. decides_made desk (λ v. SetsKey v desk body) (view desk w) c.in_ok-desk_answer.field-0 _ _ refl c.in_ok-desk_answer.ensures
    (sets_key_by (view desk w) desk body _ _ (desk_there w desk _ is c.if-is_none.ensures) says
    (sym c.in-Some-key_digest.is ∙ digest_of_key (string_bytes c.in-Some.key) c.key_digest.result (key_says body _ says)
    (c.key_digest.ensures ∙ ap key_digest_of c.as_bytes.ensures.value))))
