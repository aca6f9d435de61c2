use Rattle.std.proofs.Common.{map}
use Rattle.std.proofs.lemmas.Result.{IfOk-weaker, err_from_is_err_and}
use Rattle.plan_errors.specs.Output.{Refuses}
use Rattle.plan_list_back.specs.ListBack.{times_of}
use Rattle.plan_documents.specs.Documents.{IsOfSubject, RefusesSubject}
use Rattle.plan_documents.proofs.DocumentLemmas.{of_subject, no_document, no_plan, no_text}
use Rattle.plan_documents.proofs.ErrorLemmas.{if_err_weaker}
use Rattle.plan_cli.specs.ListRun.{AreTimesIn, TellsNoTimes}
use Rattle.plan_cli.proofs.list_texts.table_times.Goals as goal

pub returns-in_err-document-clause-refused : goal.returns-in_err-document-clause-refused
returns-in_err-document-clause-refused g c =
    let a = c.args in
    let error = err_from_is_err_and c.from_residual.result c.from_residual.ensures.1 in
    rw (error.1, error.2) (no_document a.subject a.file.now (TellsNoTimes a.origin a.dates a.table.now) c.in_err-document.field-0.0
    c.in_err-document.ensures.refused)

pub returns-in_err-plan-clause-refused : goal.returns-in_err-plan-clause-refused
returns-in_err-plan-clause-refused g c =
    let a = c.args in
    let error = err_from_is_err_and c.from_residual-in_err-plan.result c.from_residual-in_err-plan.ensures.1 in
    rw (error.1, error.2) (no_plan a.subject a.file.now c.in_ok-document.document (TellsNoTimes a.origin a.dates a.table.now)
    c.in_err-plan.field-0.0 c.in_ok-document.ensures.read c.in_err-plan.ensures.refused)

pub returns-clause-made : goal.returns-clause-made
returns-clause-made g c =
    let a = c.args in
    IfOk-weaker c.named_times.result (λ all. AreTimesIn a.origin a.dates a.table.now c.in_ok-plan.plan (map times_of all.items))
    (λ all. IsOfSubject a.subject (AreTimesIn a.origin a.dates a.table.now) a.file.now (map times_of all.items))
    (λ all made. of_subject a.subject a.file.now c.in_ok-document.document c.in_ok-plan.plan (AreTimesIn a.origin a.dates a.table.now)
    (map times_of all.items) c.in_ok-document.ensures.read c.in_ok-plan.ensures.plan c.in_ok-plan.ensures.fit made) c.named_times.ensures.made

pub returns-clause-refused : goal.returns-clause-refused
returns-clause-refused g c =
    let a = c.args in
    if_err_weaker c.named_times.result (Refuses (TellsNoTimes a.origin a.dates a.table.now c.in_ok-plan.plan))
    (Refuses (RefusesSubject a.subject (TellsNoTimes a.origin a.dates a.table.now) a.file.now))
    (λ e refused. no_text a.subject a.file.now c.in_ok-document.document c.in_ok-plan.plan (TellsNoTimes a.origin a.dates a.table.now)
    e c.in_ok-document.ensures.read c.in_ok-plan.ensures.plan c.in_ok-plan.ensures.fit refused) c.named_times.ensures.refused
