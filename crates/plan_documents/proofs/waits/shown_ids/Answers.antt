use Rattle.std.proofs.Common.{◌≡◌, List, map, sym, ap, ◌∙◌}
use Rattle.std.proofs.lemmas.Result.{IfOk-weaker}
use Rattle.plan_table.specs.Names.{Name, activity_key, id_key, name_of, names_behind}
use Rattle.plan_table.specs.declared.names.NameLine.{NameLine}
use Rattle.plan_report.specs.IdSheets.{first_behind}
use Rattle.plan_documents.specs.Waits.{row_ids, without_waits}
use Rattle.plan_documents.proofs.WaitLemmas.{project_shown}
use Rattle.plan_documents.proofs.waits.shown_ids.Goals as goal

pub returns-in-Ok : goal.returns-in-Ok
returns-in-Ok c =
    let file = c.args.file.now in
    let project = c.in-Ok.project in
    let names : map name_of c.deref-in-Ok.result.now ≡ names_behind activity_key file =
    ap (λ (lines : List NameLine). map name_of lines) c.deref-in-Ok.ensures.value ∙ c.in_ok-names.ensures in
    let ids : map name_of c.deref-in-Ok-2.result.now ≡ names_behind id_key file =
    ap (λ (lines : List NameLine). map name_of lines) c.deref-in-Ok-2.ensures.value ∙ c.in_ok-ids.ensures in
    let own = map name_of c.deref-in-Ok-2.result.now in
    IfOk-weaker c.ids_of_project.result _ _
    (λ shown made. made ∙ ap (λ (ns : List Name). without_waits project ns (first_behind (row_ids own) project.network) own) names
    ∙ ap (λ (is : List Name). without_waits project (names_behind activity_key file) (first_behind (row_ids is) project.network) is) ids
    ∙ sym (project_shown file project c.in-Ok.ensures.found)) c.ids_of_project.ensures
