use Rattle.plan_kernel.proofs.PlanLemmas.{plans_are_feasible, costs_are_makespans, least_costs_are_shortest, lower_bounds_are_of_makespans}
use Rattle.plan_kernel.proofs.laws.plain_problems_stay_the_same.Goals as goal

pub returns : goal.returns
returns c = record {
  plans = plans_are_feasible;
  costs = costs_are_makespans;
  least = least_costs_are_shortest;
  lower = lower_bounds_are_of_makespans;
}
