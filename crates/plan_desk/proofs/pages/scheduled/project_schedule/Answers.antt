use Rattle.std.proofs.Common.{subst, ap, ◌∙◌}
use Rattle.std.specs.Prelude.{IfOk}
use Rattle.plan_sgs.specs.Instances.{planned}
use Rattle.plan_desk.specs.Scheduled.{IsMade}
use Rattle.plan_desk.proofs.MadeLemmas.{made_result}
use Rattle.plan_desk.proofs.pages.scheduled.project_schedule.Goals as goal

pub returns-clause-ok : goal.returns-clause-ok
returns-clause-ok c =
    subst (λ i. IfOk c.serial.result (IsMade i c.args.rule.now)) (c.in_ok-instance.ensures.ok ∙ ap (λ p. planned p c.args.caps.now) c.document.ensures)
    (made_result c.in_ok-instance.instance c.args.rule.now c.in_ok-rule.rule c.serial.result c.in_ok-rule.ensures.ok
    c.serial.ensures.list c.serial.ensures.active c.serial.ensures.makespan c.serial.ensures.ends c.serial.ensures.limit)
