use Rattle.plan_weekcheck.proofs.OutputLemmas.{shown_check}
use Rattle.plan_weekcheck.proofs.output.checked_week.Goals as goal

pub returns-clause-shown : goal.returns-clause-shown
returns-clause-shown c =
    shown_check c.args.order.now c.args.starts.now c.args.text.now c.in_ok-text.text.items c.in_ok-listed.listed c.in_ok-verdict.verdict
    c.in_ok-listed.ensures.listed c.in_ok-verdict.ensures.verdict c.in_ok-text.ensures
