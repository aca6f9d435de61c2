use Rattle.plan_week.proofs.WeekLemmas.{has_plans_of}
use Rattle.plan_week.proofs.input.input_of.Goals as goal

pub returns : goal.returns
returns c = has_plans_of c.args.week.now c.in_ok-input.input c.in_ok-input.ensures.numbers c.in_ok-input.ensures.tails
