use Rattle.plan_weekfile.proofs.WeekLemmas.{shown_week}
use Rattle.plan_weekfile.proofs.output.week_output.Goals as goal

pub returns-clause-shown : goal.returns-clause-shown
returns-clause-shown g c =
    shown_week c.args.order.now c.args.text.now c.in_ok-plan_text.field-0.items c.in_ok-listed.listed c.in_ok-plan.plan
    c.in_ok-listed.ensures.listed c.in_ok-plan.ensures.plan c.in_ok-plan_text.ensures
