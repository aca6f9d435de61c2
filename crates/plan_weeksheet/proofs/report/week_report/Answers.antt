use Rattle.std.specs.Prelude.{string_bytes}
use Rattle.plan_weeksheet.proofs.OutputLemmas.{page_shown}
use Rattle.plan_weeksheet.proofs.report.week_report.Goals as goal

pub returns-clause-shown : goal.returns-clause-shown
returns-clause-shown g c =
    page_shown c.args.order.now c.args.title.now c.args.days c.args.text.now (string_bytes c.in_ok-page.page) c.in_ok-listed.listed c.in_ok-plan.plan
    c.in_ok-listed.ensures.listed c.in_ok-plan.ensures.plan c.in_ok-page.ensures.shown
