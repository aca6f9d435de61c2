use Rattle.std.specs.Prelude.{string_bytes}
use Rattle.std.proofs.lemmas.Result.{IfOk-weaker}
use Rattle.plan_errors.specs.Output.{Refuses}
use Rattle.plan_sheet.specs.Names.{names_of}
use Rattle.plan_cli.specs.DaysRun.{ShowsDays, TellsBeyond, TellsNoDays}
use Rattle.plan_documents.proofs.ErrorLemmas.{if_err_weaker}
use Rattle.plan_print.specs.Layouts.{layout_of}
use Rattle.plan_print.specs.Sheets.{IsDatedPage, IsPageBeyond}
use Rattle.plan_print.proofs.SheetLemmas.{beyond}
use Rattle.plan_print.proofs.reports.dated_page.Goals as goal

pub returns-clause-made : goal.returns-clause-made
returns-clause-made c =
    let a = c.args in
    let calendar = c.in_ok-calendar.calendar in
    let Shows = IsDatedPage a.heading a.style.now (names_of a.names.now) (layout_of a.plan.now a.by_job a.listed) a.plan.now a.schedule.now.starts.items in
    IfOk-weaker c.page_on.result (λ text. Shows calendar (string_bytes text)) (λ text. ShowsDays a.dates Shows (string_bytes text))
    (λ text shown. (calendar, c.in_ok-calendar.ensures.made, shown)) c.page_on.ensures.made

pub returns-clause-refused : goal.returns-clause-refused
returns-clause-refused c =
    let a = c.args in
    let calendar = c.in_ok-calendar.calendar in
    let Beyond = IsPageBeyond a.style.now a.by_job a.plan.now a.schedule.now.starts.items in
    if_err_weaker c.page_on.result (Refuses (TellsBeyond (Beyond calendar))) (Refuses (TellsNoDays a.dates Beyond))
    (λ e refused. beyond a.dates calendar Beyond e c.in_ok-calendar.ensures.made refused) c.page_on.ensures.refused
