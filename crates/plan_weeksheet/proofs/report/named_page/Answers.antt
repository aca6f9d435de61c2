use Rattle.std.proofs.Common.{◌≡◌, ◌∙◌, List, ℕ, ap, map, rules, subst}
use Rattle.std.specs.Prelude.{IfOk, string_bytes}
use Rattle.plan_sheet.specs.Names.{SheetNames}
use Rattle.plan_table.specs.Names.{Name, name_of}
use Rattle.plan_table.specs.Table.{resource_of}
use Rattle.plan_weekfile.specs.Weeks.{names_from}
use Rattle.plan_views.specs.LinkColumns.{needs_text}
use Rattle.plan_weeksheet.specs.Names.{numbered_from, sheet_names}
use Rattle.plan_weeksheet.specs.Pages.{IsPageOf}
use Rattle.plan_weeksheet.specs.Rectangles.{Rectangle, rectangle_of}
use Rattle.plan_weeksheet.proofs.PageLemmas.{names_same}
use Rattle.plan_weeksheet.proofs.report.named_page.Goals as goal

pub returns-clause-page : goal.returns-clause-page
returns-clause-page c =
    let a = c.args in
    let rs = map rectangle_of a.rectangles.now in
    let own : map resource_of c.deref.result.now ≡ a.listed.now.table.resources = search rules in
    let list = ap (names_from 1) own in
    let capacities : c.deref-9.result.now ≡ a.listed.now.week.capacities.items = search rules in
    let legend = ap (map name_of) c.deref-2.ensures.value ∙ c.in_ok-legend.ensures ∙ list in
    let needs = ap (λ texts. numbered_from 2 (map (λ text. text.items) texts)) c.deref-3.ensures.value
    ∙ ap (numbered_from 2) (c.in_ok-needs.ensures ∙ ap (λ (names : List Name). map (λ (r : Rectangle). needs_text names r.needs) rs) legend) in
    subst (λ (caps : List ℕ). IfOk c.page_of.result (λ text. IsPageOf a.heading.title.now a.heading.lower a.days
    (sheet_names a.listed.now.table.resources rs) caps rs a.makespan (string_bytes text)))
    capacities
    (subst (λ (n : SheetNames). IfOk c.page_of.result (λ text. IsPageOf a.heading.title.now a.heading.lower a.days n c.deref-9.result.now rs a.makespan (string_bytes text)))
    (names_same _ _ _ _ _ _ _ _ _ _
    (ap (map name_of) c.deref-4.ensures.value ∙ c.in_ok-lines.ensures)
    (ap (map name_of) c.deref-5.ensures.value ∙ c.in_ok-legend.ensures ∙ list)
    (ap (map name_of) c.deref-6.ensures.value ∙ c.in_ok-ids.ensures)
    (ap (map name_of) c.deref-7.ensures.value ∙ c.in_ok-resources.ensures ∙ needs)
    (ap (map name_of) c.deref-8.ensures.value ∙ c.in_ok-predecessors.ensures))
    c.page_of.ensures.page)
