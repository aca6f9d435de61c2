use Rattle.std.proofs.Common.{ℕ, List, rules, IfErr, subst}
use Rattle.std.specs.Prelude.{IsErrOf}
use Rattle.plan_orlib.proofs.NameLemmas.{mapped}
use Rattle.plan_errors.specs.Output.{Refuses}
use Rattle.plan_gantt.specs.declared.days.DaysFault.TheVariants as days
use Rattle.plan_cli.specs.DaysRun.{TellsBeyond, TellsDaysFault}
use Rattle.plan_print.specs.Sheets.{IsPageBeyond}
use Rattle.plan_sheet.specs.Layouts.{Layout}
use Rattle.plan_sheet.specs.Layouts as layouts
use Rattle.plan_sheet.specs.Reports.{IsReportBeyond}
use Rattle.plan_print.proofs.SheetLemmas.{beyond_same, beyond_told}
use Rattle.plan_print.proofs.reports.page_by.Goals as goal

pub returns-clause-refused : goal.returns-clause-refused
returns-clause-refused c =
    let a = c.args in
    let Beyond = IsPageBeyond a.style.now a.by_job a.plan.now a.schedule.now.starts.items a.calendar.now in
    mapped c.dated_report.result c.map_err.result _ (λ told. IfErr told (Refuses (TellsBeyond Beyond)))
    c.map_err.ensures.cases (λ text is. tt)
    (λ fault e is learnt.
    let tells : Refuses (TellsDaysFault fault) e = search rules in
    let beyond : IsErrOf c.dated_report.result days.BeyondCalendar → Beyond = λ late.
    beyond_same a.style.now.hours a.plan.now a.by_job a.listed a.schedule.now.starts.items a.calendar.now
    (subst (λ (l : Layout). IsReportBeyond a.style.now.hours l a.schedule.now.starts.items a.calendar.now)
    c.layout_of-layout.ensures.layout
    (subst (λ (starts : List ℕ). IsReportBeyond a.style.now.hours (layouts.layout_of c.layout_of-layout.result) starts a.calendar.now)
    c.deref.ensures.value (c.dated_report.ensures.beyond late))) in
    beyond_told c.dated_report.result fault e Beyond is beyond tells)
