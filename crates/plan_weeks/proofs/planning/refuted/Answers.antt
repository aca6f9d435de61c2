use Rattle.plan_weeks.proofs.PlanLemmas.{no_plan}
use Rattle.plan_weeks.proofs.planning.refuted.Goals as goal

pub returns-then-limit-greatest : goal.returns-then-limit-greatest
returns-then-limit-greatest c conflicts =
    no_plan c.args.week.now c.args.limit c.args.greatest c.limits_are_enough.ensures c.requires.none c.requires.limit
    c.if-limit-greatest.true
