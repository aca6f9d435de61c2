use Rattle.std.proofs.Common.{Option, sym, subst}
use Rattle.plan_cli.specs.declared.calendars.Dates.{Dates}
use Rattle.plan_documents.specs.Lines.{IfText}
use Rattle.plan_sheet.specs.Names.{names_of}
use Rattle.plan_print.specs.Layouts.{layout_of}
use Rattle.plan_print.specs.Sheets.{IsPage}
use Rattle.plan_print.proofs.reports.page_text.Goals as goal

pub returns-in-Some-clause-made : goal.returns-in-Some-clause-made
returns-in-Some-clause-made c =
    let a = c.args in
    subst (λ (d : Option Dates). IfText c.dated_page.result
    (IsPage a.heading d a.style.now (names_of a.names.now) (layout_of a.plan.now a.by_job a.listed) a.plan.now a.schedule.now.starts.items))
    (sym c.in-Some.is) c.dated_page.ensures.made
