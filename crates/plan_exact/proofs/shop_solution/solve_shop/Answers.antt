use Rattle.plan_exact.proofs.SolutionLemmas.{solution_is_active, solution_has_makespan, solution_is_shortest}
use Rattle.plan_exact.proofs.shop_solution.solve_shop.Goals as goal

pub returns-clause-shortest : goal.returns-clause-shortest
returns-clause-shortest c = solution_is_shortest c.args.shop.now c.args.budget c.in_ok-solution_of.field-0 c.jobs.ensures.shop.shop c.in_ok-solution_of.ensures

pub returns-clause-active : goal.returns-clause-active
returns-clause-active c = solution_is_active c.args.shop.now c.args.budget c.in_ok-solution_of.field-0 c.jobs.ensures.shop.shop c.in_ok-solution_of.ensures

pub returns-clause-makespan : goal.returns-clause-makespan
returns-clause-makespan c = solution_has_makespan c.args.shop.now c.args.budget c.in_ok-solution_of.field-0 c.jobs.ensures.shop.shop c.in_ok-solution_of.ensures
