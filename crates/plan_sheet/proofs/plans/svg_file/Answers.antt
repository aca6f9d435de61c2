use Rattle.std.proofs.Common.{ap, ◌∙◌}
use Rattle.plan_sheet.specs.Escape.{markup_of}
use Rattle.plan_sheet.specs.Layouts.{layout_of}
use Rattle.plan_sheet.specs.Names.{names_of}
use Rattle.plan_sheet.proofs.ReportMarkupLemmas.{same_svg}
use Rattle.plan_sheet.proofs.plans.svg_file.Goals as goal

pub returns-clause-safe : goal.returns-clause-safe
returns-clause-safe c =
    ap markup_of c.in_ok-text.ensures.text
    ∙ same_svg c.args.title.now (names_of c.args.names.now) (layout_of c.args.layout) c.args.starts.now
