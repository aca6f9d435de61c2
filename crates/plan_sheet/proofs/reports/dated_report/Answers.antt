use Rattle.std.proofs.Common.{ap, refl, ◌∙◌}
use Rattle.plan_sheet.specs.Escape.{markup_of}
use Rattle.plan_sheet.specs.Layouts.{layout_of}
use Rattle.plan_sheet.specs.Names.{names_of}
use Rattle.plan_sheet.specs.Reports.{dated_by, layout_page, margins_of}
use Rattle.plan_sheet.proofs.ReportMarkupLemmas.{same_layout}
use Rattle.plan_sheet.proofs.reports.dated_report.Goals as goal

pub returns-clause-text : goal.returns-clause-text
returns-clause-text c =
    let a = c.args in
    record {
      days = c.in_ok-days.days.items;
      are = c.in_ok-days.ensures.days;
      shown = c.in_ok-text.ensures.text
          ∙ ap (λ ds. layout_page a.heading.title.now a.heading.lower (names_of a.names.now) (layout_of a.layout) a.starts.now
          (dated_by a.style.now ds) (margins_of a.margins.now)) c.deref.ensures.value;
    }

pub returns-clause-safe : goal.returns-clause-safe
returns-clause-safe c =
    let a = c.args in (
      _,
      record { days = c.in_ok-days.days.items; are = c.in_ok-days.ensures.days; shown = refl },
      ap markup_of (c.in_ok-text.ensures.text
          ∙ ap (λ ds. layout_page a.heading.title.now a.heading.lower (names_of a.names.now) (layout_of a.layout) a.starts.now
          (dated_by a.style.now ds) (margins_of a.margins.now)) c.deref.ensures.value)
          ∙ same_layout a.heading.title.now a.heading.lower (names_of a.names.now) (layout_of a.layout) a.starts.now
          (dated_by a.style.now c.in_ok-days.days.items) (margins_of a.margins.now),
    )
