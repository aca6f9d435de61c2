use Rattle.std.proofs.lemmas.Result.{IfOk-weaker, err_from_is_err_and}
use Rattle.plan_cli.specs.Commands.{IsPlanView, IsPlanLine}
use Rattle.plan_documents.specs.Documents.{IsOfSubject, RefusesSubject}
use Rattle.plan_cli.specs.Views.{view_of}
use Rattle.plan_errors.specs.Output.{Refuses}
use Rattle.plan_documents.proofs.DocumentLemmas.{of_subject, no_document, no_plan, no_text}
use Rattle.plan_documents.proofs.ErrorLemmas.{if_err_weaker}
use Rattle.plan_cli.proofs.commands.subject_view.Goals as goal

pub returns-in_err-document-clause-refused : goal.returns-in_err-document-clause-refused
returns-in_err-document-clause-refused g c =
    let error = err_from_is_err_and c.from_residual.result c.from_residual.ensures.1 in
    rw (error.1, error.2) (no_document c.args.subject c.args.file.now (IsPlanLine c.args.command) c.in_err-document.field-0.0
    c.in_err-document.ensures.refused)

pub returns-in_err-plan-clause-refused : goal.returns-in_err-plan-clause-refused
returns-in_err-plan-clause-refused g c =
    let error = err_from_is_err_and c.from_residual-in_err-plan.result c.from_residual-in_err-plan.ensures.1 in
    rw (error.1, error.2) (no_plan c.args.subject c.args.file.now c.in_ok-document.document (IsPlanLine c.args.command) c.in_err-plan.field-0.0
    c.in_ok-document.ensures.read c.in_err-plan.ensures.refused)

pub returns-clause-made : goal.returns-clause-made
returns-clause-made g c =
    IfOk-weaker c.named_view.result (λ view. IsPlanView c.args.command c.in_ok-plan.plan (view_of view))
    (λ view. IsOfSubject c.args.subject (IsPlanView c.args.command) c.args.file.now (view_of view))
    (λ view made. of_subject c.args.subject c.args.file.now c.in_ok-document.document c.in_ok-plan.plan (IsPlanView c.args.command)
    (view_of view) c.in_ok-document.ensures.read c.in_ok-plan.ensures.plan c.in_ok-plan.ensures.fit made) c.named_view.ensures.made

pub returns-clause-refused : goal.returns-clause-refused
returns-clause-refused g c =
    if_err_weaker c.named_view.result (Refuses (IsPlanLine c.args.command c.in_ok-plan.plan))
    (Refuses (RefusesSubject c.args.subject (IsPlanLine c.args.command) c.args.file.now))
    (λ e refused. no_text c.args.subject c.args.file.now c.in_ok-document.document c.in_ok-plan.plan (IsPlanLine c.args.command)
    e c.in_ok-document.ensures.read c.in_ok-plan.ensures.plan c.in_ok-plan.ensures.fit refused) c.named_view.ensures.refused
