use Rattle.std.proofs.Common.{◌∙◌}
use Rattle.std.specs.Prelude.{string_bytes}
use Rattle.plan_sgs.proofs.InstanceLemmas.{count-problem}
use Rattle.plan_desk.proofs.BestLemmas.{project_best}
use Rattle.plan_desk.proofs.pages.best.of_instance.Goals as goal

pub best_project_text-requires-clause-starts : goal.best_project_text-requires-clause-starts
best_project_text-requires-clause-starts c = c.in-Ok.ensures.active.feasible.each_started ∙ count-problem c.args.instance.now

pub returns-in_ok-best_project_text-in-Ok : goal.returns-in_ok-best_project_text-in-Ok
returns-in_ok-best_project_text-in-Ok c =
    project_best c.args.budget.now c.budget_of.result c.args.instance.now c.in-Ok.solved (string_bytes c.in_ok-best_project_text-in-Ok.field-0) c.budget_of.ensures
    c.in-Ok.ensures.solution c.in-Ok.ensures.shortest c.in-Ok.ensures.active c.in-Ok.ensures.makespan c.in_ok-best_project_text-in-Ok.ensures.text
