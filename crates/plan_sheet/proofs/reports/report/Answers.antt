use Rattle.std.proofs.Common.{false, [], ap, ◌∙◌}
use Rattle.plan_sheet.specs.Escape.{markup_of}
use Rattle.plan_sheet.specs.Layouts.{layout_of}
use Rattle.plan_sheet.specs.Names.{names_of}
use Rattle.plan_sheet.specs.Reports.{Calendared, layout_page, margins_of, undated}
use Rattle.plan_sheet.specs.declared.reports.DayStyle.{DayStyle}
use Rattle.plan_sheet.proofs.ReportMarkupLemmas.{same_layout}
use Rattle.plan_sheet.proofs.reports.report.Goals as goal

-- no days, and a style for them
abbrev styled : DayStyle → Calendared
styled style = record { dated = false; weekdays = style.weekdays; hours = style.hours; days = [] }

pub returns-clause-safe : goal.returns-clause-safe
returns-clause-safe c =
    let a = c.args in
    ap markup_of (c.in_ok-text.ensures.text
    ∙ ap (λ style. layout_page a.heading.title.now a.heading.lower (names_of a.names.now) (layout_of a.layout) a.starts.now
    (styled style) (margins_of a.margins.now)) c.plain-style.ensures)
    ∙ same_layout a.heading.title.now a.heading.lower (names_of a.names.now) (layout_of a.layout) a.starts.now undated
    (margins_of a.margins.now)
