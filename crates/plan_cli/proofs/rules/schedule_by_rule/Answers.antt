use Rattle.std.proofs.Common.{rules, IfOk, []}
use Rattle.plan_gantt.specs.ScheduleText.{IsSchedule}
use Rattle.plan_cli.specs.Scheduled.{IsShowable}
use Rattle.plan_documents.specs.declared.documents.Plan.TheVariants as plan
use Rattle.plan_orlib.proofs.NameLemmas.{mapped}
use Rattle.plan_cli.proofs.ScheduledLemmas.{shown_by}
use Rattle.plan_cli.proofs.rules.schedule_by_rule.Goals as goal

pub returns-clause-made : goal.returns-clause-made
returns-clause-made c =
    mapped c.serial.result c.map_err.result _ (λ made. IfOk made (λ s. IsSchedule c.args.instance.now c.args.rule s.starts.items))
    c.map_err.ensures.cases
    (λ schedule is. record { scheduled = search rules; active = search rules })
    (λ fault e is learnt. tt)

pub returns-clause-showable : goal.returns-clause-showable
returns-clause-showable c =
    mapped c.serial.result c.map_err.result _ (λ made. IfOk made (IsShowable (plan.Project c.args.instance.now [])))
    c.map_err.ensures.cases
    (λ schedule is. shown_by c.args.instance.now schedule (search rules) (search rules) (search rules))
    (λ fault e is learnt. tt)
