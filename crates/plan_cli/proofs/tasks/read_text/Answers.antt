use Rattle.std.proofs.Common.{Option, subst}
use Rattle.std.specs.Prelude.{IfOk, IfErr}
use Rattle.plan_errors.specs.Output.{Refuses}
use Rattle.plan_cli.specs.Tasks.{RefusesOn, ShowsOn}
use Rattle.plan_documents.specs.declared.documents.Subject.{Subject}
use Rattle.plan_cli.proofs.tasks.read_text.Goals as goal

pub returns-clause-made : goal.returns-clause-made
returns-clause-made g c =
    subst (λ (of : Option Subject). IfOk c.text_on.result (λ text. ShowsOn of c.args.rows c.args.task c.args.file.now text.items))
    c.list_subject-of.ensures c.text_on.ensures.made

pub returns-clause-refused : goal.returns-clause-refused
returns-clause-refused g c =
    subst (λ (of : Option Subject). IfErr c.text_on.result (Refuses (RefusesOn of c.args.task c.args.file.now)))
    c.list_subject-of.ensures c.text_on.ensures.refused
