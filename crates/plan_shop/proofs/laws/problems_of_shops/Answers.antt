use Rattle.plan_shop.proofs.ShopBasics.{arcs_are_neighbours, needs_are_machines, capacities_keep_apart}
use Rattle.plan_shop.proofs.laws.problems_of_shops.Goals as goal

pub returns-clause-arcs : goal.returns-clause-arcs
returns-clause-arcs c = arcs_are_neighbours

pub returns-clause-needs : goal.returns-clause-needs
returns-clause-needs c = needs_are_machines

pub returns-clause-apart : goal.returns-clause-apart
returns-clause-apart c = capacities_keep_apart
