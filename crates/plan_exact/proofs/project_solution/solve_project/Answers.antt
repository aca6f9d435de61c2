use Rattle.plan_exact.proofs.ProjectSolutionLemmas.{solution_is_active, solution_has_makespan, solution_is_shortest}
use Rattle.plan_exact.proofs.project_solution.solve_project.Goals as goal

pub returns-clause-shortest : goal.returns-clause-shortest
returns-clause-shortest c = solution_is_shortest c.args.instance.now c.args.budget c.in_ok-solution_of.field-0 c.network.ensures.instance c.in_ok-solution_of.ensures

pub returns-clause-active : goal.returns-clause-active
returns-clause-active c = solution_is_active c.args.instance.now c.args.budget c.in_ok-solution_of.field-0 c.network.ensures.instance c.in_ok-solution_of.ensures

pub returns-clause-makespan : goal.returns-clause-makespan
returns-clause-makespan c = solution_has_makespan c.args.instance.now c.args.budget c.in_ok-solution_of.field-0 c.network.ensures.instance c.in_ok-solution_of.ensures
