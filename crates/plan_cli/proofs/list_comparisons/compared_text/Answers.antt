use Rattle.std.proofs.Common.{inr}
use Rattle.std.proofs.lemmas.Result.{IfOk-weaker, err_from_is_err_and}
use Rattle.plan_errors.specs.Output.{Refuses}
use Rattle.plan_documents.specs.Documents.{IsOfSubject}
use Rattle.plan_documents.proofs.DocumentLemmas.{of_subject}
use Rattle.plan_documents.proofs.ErrorLemmas.{if_err_weaker, refuses_as}
use Rattle.plan_cli.specs.ListComparisons.{IsPlansView, TellsNoOld, TellsNoPlans}
use Rattle.plan_cli.specs.Views.{view_of}
use Rattle.plan_cli.proofs.ListComparisonLemmas.{no_old_document, no_old_plan}
use Rattle.plan_cli.proofs.list_comparisons.compared_text.Goals as goal

pub returns-in_err-document-clause-refused : goal.returns-in_err-document-clause-refused
returns-in_err-document-clause-refused c =
    let a = c.args in
    let error = err_from_is_err_and c.from_residual.result c.from_residual.ensures.1 in
    rw (error.1, error.2) (no_old_document a.subject a.text.now a.pair.a.now a.pair.b.now a.after.now c.in_err-document.field-0.0
    c.in_err-document.ensures.refused)

pub returns-in_err-before-clause-refused : goal.returns-in_err-before-clause-refused
returns-in_err-before-clause-refused c =
    let a = c.args in
    let error = err_from_is_err_and c.from_residual-in_err-before.result c.from_residual-in_err-before.ensures.1 in
    rw (error.1, error.2) (no_old_plan a.subject a.text.now c.in_ok-document.document a.pair.a.now a.pair.b.now a.after.now
    c.in_err-before.field-0.0 c.in_ok-document.ensures.read c.in_err-before.ensures.refused)

pub returns-clause-made : goal.returns-clause-made
returns-clause-made c =
    let a = c.args in
    IfOk-weaker c.compared_plans.result (λ view. IsPlansView a.pair.a.now a.pair.b.now a.after.now c.in_ok-before.before (view_of view))
    (λ view. IsOfSubject a.subject (IsPlansView a.pair.a.now a.pair.b.now a.after.now) a.text.now (view_of view))
    (λ view made. of_subject a.subject a.text.now c.in_ok-document.document c.in_ok-before.before
    (IsPlansView a.pair.a.now a.pair.b.now a.after.now) (view_of view)
    c.in_ok-document.ensures.read c.in_ok-before.ensures.plan c.in_ok-before.ensures.fit made) c.compared_plans.ensures.made

pub returns-clause-refused : goal.returns-clause-refused
returns-clause-refused c =
    let a = c.args in
    if_err_weaker c.compared_plans.result (Refuses (TellsNoPlans a.pair.a.now a.pair.b.now a.after.now c.in_ok-before.before))
    (Refuses (TellsNoOld a.subject a.text.now a.pair.a.now a.pair.b.now a.after.now))
    (λ e refused. refuses_as (TellsNoPlans a.pair.a.now a.pair.b.now a.after.now c.in_ok-before.before)
    (TellsNoOld a.subject a.text.now a.pair.a.now a.pair.b.now a.after.now) e
    (λ line tells. inr (of_subject a.subject a.text.now c.in_ok-document.document c.in_ok-before.before
    (TellsNoPlans a.pair.a.now a.pair.b.now a.after.now) line
    c.in_ok-document.ensures.read c.in_ok-before.ensures.plan c.in_ok-before.ensures.fit tells)) refused) c.compared_plans.ensures.refused
