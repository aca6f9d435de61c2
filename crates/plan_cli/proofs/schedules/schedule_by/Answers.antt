use Rattle.std.proofs.Common.{IfOk, sym, subst}
use Rattle.plan_cli.specs.Scheduled.{IsByRule}
use Rattle.plan_documents.specs.declared.documents.Plan.{Plan}
use Rattle.plan_cli.proofs.schedules.schedule_by.Goals as goal

pub returns-in-Project-clause-starts : goal.returns-in-Project-clause-starts
returns-in-Project-clause-starts c =
    subst (λ (p : Plan). IfOk c.project_schedule_by.result (λ m. IsByRule c.args.name.now p m.starts.items)) (sym c.in-Project.is)
    c.project_schedule_by.ensures.starts

pub returns-in-Shop-clause-starts : goal.returns-in-Shop-clause-starts
returns-in-Shop-clause-starts c =
    subst (λ (p : Plan). IfOk c.shop_schedule_by.result (λ m. IsByRule c.args.name.now p m.starts.items)) (sym c.in-Shop.is)
    c.shop_schedule_by.ensures.starts
