use Rattle.std.proofs.lemmas.Result.{IfOk-weaker}
use Rattle.plan_exact.specs.ProjectSolutions.{IsProjectSolution}
use Rattle.plan_exact.proofs.ProjectSolutionLemmas.{solution_is_shortest, solution_is_active, solution_has_makespan}
use Rattle.plan_exact.proofs.memo.Memo.solve_project.Goals as goal

pub returns-in-Ok-clause-shortest : goal.returns-in-Ok-clause-shortest
returns-in-Ok-clause-shortest c =
    IfOk-weaker c.project_answer.result (IsProjectSolution c.args.instance.now c.args.budget) _
    (λ solved. solution_is_shortest c.args.instance.now c.args.budget solved
    c.of_project.ensures.instance) c.project_answer.ensures.solution

pub returns-in-Ok-clause-active : goal.returns-in-Ok-clause-active
returns-in-Ok-clause-active c =
    IfOk-weaker c.project_answer.result (IsProjectSolution c.args.instance.now c.args.budget) _
    (λ solved. solution_is_active c.args.instance.now c.args.budget solved c.of_project.ensures.instance)
    c.project_answer.ensures.solution

pub returns-in-Ok-clause-makespan : goal.returns-in-Ok-clause-makespan
returns-in-Ok-clause-makespan c =
    IfOk-weaker c.project_answer.result (IsProjectSolution c.args.instance.now c.args.budget) _
    (λ solved. solution_has_makespan c.args.instance.now c.args.budget solved
    c.of_project.ensures.instance) c.project_answer.ensures.solution
