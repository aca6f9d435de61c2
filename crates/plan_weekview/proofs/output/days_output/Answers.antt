use Rattle.plan_weekview.proofs.OutputLemmas.{days_shown}
use Rattle.plan_weekview.proofs.output.days_output.Goals as goal

pub returns-clause-shown : goal.returns-clause-shown
returns-clause-shown g c =
    days_shown c.args.order.now c.args.calendar.now c.args.text.now c.in_ok-shown.shown.items c.in_ok-listed.listed c.in_ok-plan.plan
    c.in_ok-listed.ensures.listed c.in_ok-plan.ensures.plan c.in_ok-shown.ensures.shown
