use Rattle.std.proofs.Common.{◌≡◌, length, subst, refl}
use Rattle.std.specs.Prelude.{option_map}
use Rattle.plan_rows.specs.Views.{view}
use Rattle.plan_rows.specs.World.{desk_in}
use Rattle.plan_rows.specs.Books.{Matches, IsDeskAnswer}
use Rattle.plan_desk.specs.Replies.{reply_of}
use Rattle.plan_desk.specs.RouteRefusals.{IsImportRefusal}
use Rattle.plan_desk.specs.FoundFiles.{ImportsFile}
use Rattle.plan_desk.proofs.DecidingLemmas.{found_by, found_known, found_more}
use Rattle.plan_desk.proofs.RouteLemmas.{decides_kept, decides_made}
use Rattle.plan_desk.proofs.ImportLemmas.{desk_answered, desk_missing, file_nowhere, file_not_kept, file_kept}
use Rattle.plan_desk.proofs.routes.imports.import_plan.Goals as goal

pub returns-in_default : goal.returns-in_default
returns-in_default g c =
    let desk = c.args.desk.now in
    let name = c.args.name.now in
    let body = c.args.body.now in
    let w = g.B.Book.shelf.world c.args.book.now in
    found_known g.B.Book.shelf _ c.args.book.now c.without_change.result
    (λ h s. decides_kept desk desk (λ v. ImportsFile c.args.kind v name body)
    (view desk w) c.without_change.result c.not_found.result _ c.without_change.ensures.reply
    c.without_change.ensures.change c.not_found.ensures
    (file_nowhere c.args.kind (view desk w) name body (desk_missing w desk (subst (Matches IsDeskAnswer (desk_in w desk)) c.in_default.is (c.requires h s)))))

pub returns-in-Some-2 : goal.returns-in-Some-2
returns-in-Some-2 g c =
    let desk = c.args.desk.now in
    let name = c.args.name.now in
    let body = c.args.body.now in
    let shelf = g.B.Book.shelf in
    let d = c.without_change-in-Some-2 in
    found_more shelf (λ w. Matches IsDeskAnswer (desk_in w desk)) (λ w held. held ≡ length (view desk w).plans) _
    c.args.book.now c.args.book.now c.count_plans.new.self c.args.row c.in_ok-held.held d.result
    (found_known shelf _ c.args.book.now c.args.row c.requires)
    (found_by shelf _ _ c.args.book.now c.count_plans.new.self c.in_ok-held.held c.in_ok-held.held c.in_ok-held.ensures (λ is. is))
    (λ w is held. decides_kept desk desk (λ v. ImportsFile c.args.kind v name body) (view desk w) d.result c.in-Some-2.refusal _ d.ensures.reply d.ensures.change refl
    (file_not_kept c.args.kind (view desk w) name body c.in-Some.row _ (reply_of c.in-Some-2.refusal)
    (desk_answered w desk c.in-Some.row (subst (Matches IsDeskAnswer (desk_in w desk)) c.in-Some.is is))
    held
    (subst (λ o. IsImportRefusal (c.in_ok-held.held) c.in-Some.row.next c.args.kind name body (option_map reply_of o)) c.in-Some-2.is c.in_ok-refusal.ensures.told)))

pub returns : goal.returns
returns g c =
    let desk = c.args.desk.now in
    let name = c.args.name.now in
    let body = c.args.body.now in
    let shelf = g.B.Book.shelf in
    found_more shelf (λ w. Matches IsDeskAnswer (desk_in w desk)) (λ w held. held ≡ length (view desk w).plans) _
    c.args.book.now c.args.book.now c.count_plans.new.self c.args.row c.in_ok-held.held _
    (found_known shelf _ c.args.book.now c.args.row c.requires)
    (found_by shelf _ _ c.args.book.now c.count_plans.new.self c.in_ok-held.held c.in_ok-held.held c.in_ok-held.ensures (λ is. is))
    (λ w is held. decides_made desk (λ v. ImportsFile c.args.kind v name body) (view desk w) c.in_ok-plan_answer.field-0 _ _ refl c.in_ok-plan_answer.ensures
    (file_kept c.args.kind (view desk w) name body c.in-Some.row _
    (desk_answered w desk c.in-Some.row (subst (Matches IsDeskAnswer (desk_in w desk)) c.in-Some.is is))
    held
    (subst (λ o. IsImportRefusal (c.in_ok-held.held) c.in-Some.row.next c.args.kind name body (option_map reply_of o)) c.in_default-2.is c.in_ok-refusal.ensures.told)))
