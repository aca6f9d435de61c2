use Rattle.std.proofs.Common.{◌≡◌, ℕ, IfOk, List, map, subst, ap, ◌∙◌}
use Rattle.plan_net.specs.Network.{Net}
use Rattle.plan_table.specs.Names.{Name, name_of}
use Rattle.plan_table.specs.declared.names.NameLine.{NameLine}
use Rattle.plan_report.specs.IdSheets.{first_behind}
use Rattle.plan_documents.specs.Waits.{row_ids, without_waits}
use Rattle.plan_documents.proofs.waits.ids_of_project.Goals as goal

pub returns : goal.returns
returns c =
    let project = c.args.project.now in
    let ids = map name_of c.args.ids.now in
    let rows : map name_of c.deref.result.now ≡ row_ids ids = ap (λ (lines : List NameLine). map name_of lines) c.deref.ensures.value ∙ c.in_ok-rows.ensures in
    let behind : c.first_behind-behind.result ≡ first_behind (row_ids ids) project.network =
    c.first_behind-behind.ensures.number ∙ ap (λ (names : List Name). first_behind names c.network.result.now) rows
    ∙ ap (λ (net : Net). first_behind (row_ids ids) net) c.network.ensures.network in
    subst (λ (n : ℕ). IfOk c.without_waits.result (λ shown. map name_of shown.items ≡ without_waits project (map name_of c.args.names.now) n ids)) behind
    c.without_waits.ensures
