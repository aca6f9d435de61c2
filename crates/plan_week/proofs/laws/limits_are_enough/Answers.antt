use Rattle.plan_week.proofs.LimitLemmas.{limits_are_enough}
use Rattle.plan_week.proofs.laws.limits_are_enough.Goals as goal

pub returns : goal.returns
returns c = limits_are_enough
