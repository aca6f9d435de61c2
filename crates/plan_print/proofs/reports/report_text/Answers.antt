use Rattle.std.proofs.Common.{List, map, ap, ap₂, subst, ◌∙◌}
use Rattle.plan_table.specs.Names.{Name, name_of}
use Rattle.plan_views.specs.LinkColumns.{links_of, predecessor_line, resource_line}
use Rattle.plan_documents.specs.Lines.{IfText}
use Rattle.plan_sheet.specs.Names.{SheetNames}
use Rattle.plan_print.specs.Layouts.{layout_of}
use Rattle.plan_print.specs.Links.{row_links}
use Rattle.plan_print.specs.Sheets.{IsPage}
use Rattle.plan_print.proofs.SheetLemmas.{names_same}
use Rattle.plan_print.proofs.reports.report_text.Goals as goal

pub returns-clause-made : goal.returns-clause-made
returns-clause-made c =
    let a = c.args in
    let links = c.in_ok-links.ensures
    ∙ ap₂ (λ (x : List Name) (y : List Name). row_links a.plan.now x y) (ap (map name_of) c.deref.ensures.value ∙ c.in_ok-legend.ensures)
    (ap (map name_of) c.deref-2.ensures.value ∙ c.in_ok-ids.ensures) in
    let lines = ap (map name_of) c.deref-5.ensures.value ∙ c.in_ok-lines.ensures in
    let legend = ap (map name_of) c.deref-6.ensures.value ∙ c.in_ok-legend.ensures in
    let ids = ap (map name_of) c.deref-7.ensures.value ∙ c.in_ok-ids.ensures in
    let resources = ap (map name_of) c.deref-8.ensures.value ∙ c.in_ok-resources.ensures
    ∙ ap (λ xs. map resource_line (map links_of xs)) c.deref-3.ensures.value ∙ ap (map resource_line) links in
    let predecessors = ap (map name_of) c.deref-9.ensures.value ∙ c.in_ok-predecessors.ensures
    ∙ ap (λ xs. map predecessor_line (map links_of xs)) c.deref-4.ensures.value ∙ ap (map predecessor_line) links in
    subst (λ (n : SheetNames). IfText c.page_text.result
    (IsPage a.heading a.dates a.style.now n (layout_of a.plan.now a.by_job a.listed) a.plan.now a.schedule.now.starts.items))
    (names_same _ _ _ _ _ _ _ _ _ _ lines legend ids resources predecessors) c.page_text.ensures.made
