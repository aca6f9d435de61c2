use Rattle.std.proofs.Common.{◌≡◌, ap, sym, ◌∙◌, Some, []}
use Rattle.std.specs.Prelude.{option_map, unwrap_or}
use Rattle.sha2.specs.Sha256.{sha256}
use Rattle.plan_rows.specs.Names.{key_digest_of}
use Rattle.plan_rows.specs.Views.{view}
use Rattle.plan_desk.specs.BodyViews.{desk_body_in}
use Rattle.plan_desk.specs.Bodies.{desk_body, desk_named}
use Rattle.plan_desk.specs.OfficeRoutes.{Opens}
use Rattle.plan_desk.proofs.FitLemmas.{desk_key_says}
use Rattle.plan_desk.proofs.DecidingLemmas.{found_at_once, found_by}
use Rattle.plan_desk.proofs.RouteLemmas.{decides_kept, has_digest, digest_of_key, opened, opens_nothing, opens_there, opens_by}
use Rattle.plan_desk.proofs.routes.office.open_desk.Goals as goal

pub returns-in_default : goal.returns-in_default
returns-in_default g c =
    let body = c.args.body.now in
    let desk = unwrap_or (desk_named body) [] in
    found_at_once g.B.Book.shelf _ c.args.book.now c.without_change.result
    (λ w. decides_kept [] desk (λ v. Opens v body) (view desk w) c.without_change.result c.bad_body.result _ c.without_change.ensures.reply c.without_change.ensures.change c.bad_body.ensures
    (opens_nothing (view desk w) body (sym c.in_ok-body.ensures ∙ ap (option_map desk_body_in) c.in_default.is)))

pub returns-in_default-key_digest : goal.returns-in_default-key_digest
returns-in_default-key_digest g c =
    let body = c.args.body.now in
    let says : desk_body body ≡ Some (desk_body_in c.in-Some.body) = sym c.in_ok-body.ensures ∙ ap (option_map desk_body_in) c.in-Some.is in
    absurd (has_digest (desk_body_in c.in-Some.body).key c.key_digest.result (desk_key_says body _ says)
    (c.key_digest.ensures ∙ ap key_digest_of c.as_bytes.ensures.value) c.in_default-key_digest.is)

pub returns-then-is_some : goal.returns-then-is_some
returns-then-is_some g c =
    let body = c.args.body.now in
    let says : desk_body body ≡ Some (desk_body_in c.in-Some.body) = sym c.in_ok-body.ensures ∙ ap (option_map desk_body_in) c.in-Some.is in
    let d = c.without_change-then-is_some in
    found_by g.B.Book.shelf _ _ c.args.book.now c.desk.new.self c.in_ok-desk.field-0 d.result c.in_ok-desk.ensures
    (λ is. decides_kept [] (opened body) (λ v. Opens v body)
    (view (opened body) (g.B.Book.shelf.world c.args.book.now)) d.result c.desk_exists.result _
    d.ensures.reply d.ensures.change c.desk_exists.ensures
    (opens_there (g.B.Book.shelf.world c.args.book.now) body _ _ _ says c.as_str.ensures.value is (sym c.is_some.ensures ∙ c.if-is_some.true)))

pub returns : goal.returns
returns g c =
    let body = c.args.body.now in
    let says : desk_body body ≡ Some (desk_body_in c.in-Some.body) = sym c.in_ok-body.ensures ∙ ap (option_map desk_body_in) c.in-Some.is in
    let digest : Some c.in-Some-key_digest.digest ≡ Some (sha256 (desk_body_in c.in-Some.body).key) =
    sym c.in-Some-key_digest.is ∙ digest_of_key (desk_body_in c.in-Some.body).key c.key_digest.result (desk_key_says body _ says)
    (c.key_digest.ensures ∙ ap key_digest_of c.as_bytes.ensures.value) in
    found_by g.B.Book.shelf _ _ c.args.book.now c.desk.new.self c.in_ok-desk.field-0 _ c.in_ok-desk.ensures
    (λ is. opens_by (g.B.Book.shelf.world c.args.book.now) body _ _ c.in-Some.body _ _ _ says c.as_str.ensures.value c.as_str-2.ensures.value digest is
    (sym c.is_some.ensures ∙ c.if-is_some.false) c.in_ok-desk_answer.ensures)
