use Rattle.std.proofs.lemmas.Result.{IfOk-weaker}
use Rattle.plan_exact.specs.Solutions.{IsSolution}
use Rattle.plan_exact.proofs.SolutionLemmas.{solution_is_shortest, solution_is_active, solution_has_makespan}
use Rattle.plan_exact.proofs.memo.Memo.solve.Goals as goal

pub returns-in-Ok-clause-shortest : goal.returns-in-Ok-clause-shortest
returns-in-Ok-clause-shortest c =
    IfOk-weaker c.shop_answer.result (IsSolution c.args.shop.now c.args.budget) _
    (λ solved. solution_is_shortest c.args.shop.now c.args.budget solved c.of_shop.ensures.shop)
    c.shop_answer.ensures.solution

pub returns-in-Ok-clause-active : goal.returns-in-Ok-clause-active
returns-in-Ok-clause-active c =
    IfOk-weaker c.shop_answer.result (IsSolution c.args.shop.now c.args.budget) _
    (λ solved. solution_is_active c.args.shop.now c.args.budget solved c.of_shop.ensures.shop)
    c.shop_answer.ensures.solution

pub returns-in-Ok-clause-makespan : goal.returns-in-Ok-clause-makespan
returns-in-Ok-clause-makespan c =
    IfOk-weaker c.shop_answer.result (IsSolution c.args.shop.now c.args.budget) _
    (λ solved. solution_has_makespan c.args.shop.now c.args.budget solved c.of_shop.ensures.shop)
    c.shop_answer.ensures.solution
