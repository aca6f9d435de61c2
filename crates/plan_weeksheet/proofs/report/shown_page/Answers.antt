use Rattle.std.proofs.Common.{◌≡◌, ◌∙◌, ap, map, rules}
use Rattle.std.specs.Prelude.{string_bytes}
use Rattle.std.proofs.lemmas.Result.{IfOk-weaker}
use Rattle.plan_documents.proofs.ErrorLemmas.{if_err_weaker}
use Rattle.plan_errors.specs.Output.{Refuses}
use Rattle.plan_table.specs.Names.{name_of}
use Rattle.plan_table.specs.Table.{activity_of}
use Rattle.plan_weeks.specs.WeekTables.{ids_from}
use Rattle.plan_views.specs.LinkColumns.{links_of}
use Rattle.plan_weeksheet.specs.Names.{sheet_names}
use Rattle.plan_weeksheet.specs.Outputs.{HidesPage, ShowsPage}
use Rattle.plan_weeksheet.specs.Pages.{IsPageOf, TellsNoPage}
use Rattle.plan_weeksheet.specs.Rectangles.{rectangle_of}
use Rattle.plan_weeksheet.proofs.OutputLemmas.{hidden_as, shown_as}
use Rattle.plan_weeksheet.proofs.report.shown_page.Goals as goal

pub returns-clause-shown : goal.returns-clause-shown
returns-clause-shown c =
    let a = c.args in
    let listed = a.listed.now in
    let own : map activity_of c.deref.result.now ≡ listed.table.activities = search rules in
    let rs = map rectangle_of c.deref-4.result.now in
    IfOk-weaker c.named_page.result
    (λ text. IsPageOf a.title.now c.bound_of.result a.days (sheet_names listed.table.resources rs) listed.week.capacities.items rs a.plan.now.makespan (string_bytes text))
    (λ text. ShowsPage a.title.now a.days listed a.plan.now (string_bytes text))
    (λ text page. shown_as a.title.now c.bound_of.result a.days listed a.plan.now (map name_of c.deref-2.result.now) (map links_of c.deref-3.result.now) rs (string_bytes text)
    c.bound_of.ensures
    (ap (map name_of) c.deref-2.ensures.value ∙ c.in_ok-ids.ensures ∙ ap (ids_from 2) own)
    (ap (map links_of) c.deref-3.ensures.value ∙ c.in_ok-links.ensures)
    (ap (map rectangle_of) c.deref-4.ensures.value ∙ c.in_ok-rectangles.ensures)
    page)
    c.named_page.ensures.page

pub returns-clause-refused : goal.returns-clause-refused
returns-clause-refused c =
    let a = c.args in
    let listed = a.listed.now in
    let own : map activity_of c.deref.result.now ≡ listed.table.activities = search rules in
    let rs = map rectangle_of c.deref-4.result.now in
    if_err_weaker c.named_page.result
    (Refuses (TellsNoPage a.days listed.week.capacities.items rs a.plan.now.makespan))
    (Refuses (HidesPage a.days listed a.plan.now))
    (λ e told. hidden_as a.days listed a.plan.now (map name_of c.deref-2.result.now) (map links_of c.deref-3.result.now) rs e
    (ap (map name_of) c.deref-2.ensures.value ∙ c.in_ok-ids.ensures ∙ ap (ids_from 2) own)
    (ap (map links_of) c.deref-3.ensures.value ∙ c.in_ok-links.ensures)
    (ap (map rectangle_of) c.deref-4.ensures.value ∙ c.in_ok-rectangles.ensures)
    told)
    c.named_page.ensures.refused
