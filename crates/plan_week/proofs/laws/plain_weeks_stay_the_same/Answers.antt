use Rattle.plan_week.proofs.PlainLemmas.{plans_are_feasible, makespans_stay}
use Rattle.plan_week.proofs.laws.plain_weeks_stay_the_same.Goals as goal

pub returns : goal.returns
returns c = record {
  plans = plans_are_feasible;
  makespans = makespans_stay;
}
