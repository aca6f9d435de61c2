use Rattle.std.proofs.Common.{List, ℕ, ap, ◌∙◌}
use Rattle.std.proofs.lemmas.Result.{err_from_is_err_and}
use Rattle.plan_views.specs.LineLists.{verdict_view_of}
use Rattle.plan_cli.specs.CheckRun.{IsVerdictOn, TellsBadStarts}
use Rattle.plan_cli.specs.Tasks.{NamesVerdictOn, rows_text}
use Rattle.plan_cli.specs.Views.{table}
use Rattle.plan_documents.proofs.DocumentLemmas.{of_subject, no_document, no_plan, no_text}
use Rattle.plan_cli.proofs.checks.list_checked.Goals as goal

pub returns-clause-text : goal.returns-clause-text
returns-clause-text c =
    let a = c.args in
    of_subject a.subject a.file.now c.in_ok-document.document c.in_ok-plan.plan (NamesVerdictOn a.rows a.starts.now a.subject a.file.now)
    c.in_ok-text.text.items c.in_ok-document.ensures.read c.in_ok-plan.ensures.plan c.in_ok-plan.ensures.fit (
      c.in_ok-verdict.verdict,
      c.in_ok-verdict.ensures.made,
      c.in_ok-text.ensures ∙ ap (λ (bytes : List ℕ). rows_text a.rows (table (verdict_view_of bytes))) c.in_ok-sentence.ensures,
    )

pub returns-clause-verdict : goal.returns-clause-verdict
returns-clause-verdict c =
    of_subject c.args.subject c.args.file.now c.in_ok-document.document c.in_ok-plan.plan (IsVerdictOn c.args.starts.now)
    c.in_ok-verdict.verdict c.in_ok-document.ensures.read c.in_ok-plan.ensures.plan c.in_ok-plan.ensures.fit c.in_ok-verdict.ensures.made

pub returns-in_err-document-clause-refused : goal.returns-in_err-document-clause-refused
returns-in_err-document-clause-refused c =
    let error = err_from_is_err_and c.from_residual.result c.from_residual.ensures.1 in
    rw (error.1, error.2) (no_document c.args.subject c.args.file.now (TellsBadStarts c.args.starts.now) c.in_err-document.field-0.0
    c.in_err-document.ensures.refused)

pub returns-in_err-plan-clause-refused : goal.returns-in_err-plan-clause-refused
returns-in_err-plan-clause-refused c =
    let error = err_from_is_err_and c.from_residual-in_err-plan.result c.from_residual-in_err-plan.ensures.1 in
    rw (error.1, error.2) (no_plan c.args.subject c.args.file.now c.in_ok-document.document (TellsBadStarts c.args.starts.now)
    c.in_err-plan.field-0.0 c.in_ok-document.ensures.read c.in_err-plan.ensures.refused)

pub returns-in_err-verdict-clause-refused : goal.returns-in_err-verdict-clause-refused
returns-in_err-verdict-clause-refused c =
    let error = err_from_is_err_and c.from_residual-in_err-verdict.result c.from_residual-in_err-verdict.ensures.1 in
    rw (error.1, error.2) (no_text c.args.subject c.args.file.now c.in_ok-document.document c.in_ok-plan.plan (TellsBadStarts c.args.starts.now)
    c.in_err-verdict.field-0.0 c.in_ok-document.ensures.read c.in_ok-plan.ensures.plan c.in_ok-plan.ensures.fit c.in_err-verdict.ensures.refused)
