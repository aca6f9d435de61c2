use Rattle.std.specs.Prelude.{string_bytes}
use Rattle.std.proofs.lemmas.Result.{IfOk-weaker, err_from_is_err_and}
use Rattle.plan_errors.specs.Output.{Refuses}
use Rattle.plan_documents.proofs.DocumentLemmas.{of_subject, no_document, no_plan, no_text}
use Rattle.plan_documents.proofs.ErrorLemmas.{if_err_weaker}
use Rattle.plan_print.specs.Prints.{IsSheet, RefusesSheet}
use Rattle.plan_print.specs.Sheets.{IsSheetFrom, TellsNoSheetFrom}
use Rattle.plan_print.proofs.sheets.sheet_text.Goals as goal

pub returns-in_err-document-clause-refused : goal.returns-in_err-document-clause-refused
returns-in_err-document-clause-refused g c =
    let error = err_from_is_err_and c.from_residual.result c.from_residual.ensures.1 in
    rw (error.1, error.2) (no_document c.args.subject c.args.file.now (TellsNoSheetFrom c.args.origin c.args.sheet) c.in_err-document.field-0.0
    c.in_err-document.ensures.refused)

pub returns-in_err-plan-clause-refused : goal.returns-in_err-plan-clause-refused
returns-in_err-plan-clause-refused g c =
    let error = err_from_is_err_and c.from_residual-in_err-plan.result c.from_residual-in_err-plan.ensures.1 in
    rw (error.1, error.2) (no_plan c.args.subject c.args.file.now c.in_ok-document.document (TellsNoSheetFrom c.args.origin c.args.sheet)
    c.in_err-plan.field-0.0 c.in_ok-document.ensures.read c.in_err-plan.ensures.refused)

pub returns-clause-made : goal.returns-clause-made
returns-clause-made g c =
    let a = c.args in
    let p = c.in_ok-plan.plan in
    IfOk-weaker c.plan_sheet.result (λ text. IsSheetFrom a.listed a.origin a.sheet a.subject a.file.now p (string_bytes text))
    (λ text. IsSheet a.listed a.sheet a.subject a.origin a.file.now (string_bytes text))
    (λ text made. of_subject a.subject a.file.now c.in_ok-document.document p (IsSheetFrom a.listed a.origin a.sheet a.subject a.file.now) (string_bytes text)
    c.in_ok-document.ensures.read c.in_ok-plan.ensures.plan c.in_ok-plan.ensures.fit made) c.plan_sheet.ensures.made

pub returns-clause-refused : goal.returns-clause-refused
returns-clause-refused g c =
    let a = c.args in
    let p = c.in_ok-plan.plan in
    if_err_weaker c.plan_sheet.result (Refuses (TellsNoSheetFrom a.origin a.sheet p)) (Refuses (RefusesSheet a.sheet a.subject a.origin a.file.now))
    (λ e refused. no_text a.subject a.file.now c.in_ok-document.document p (TellsNoSheetFrom a.origin a.sheet) e
    c.in_ok-document.ensures.read c.in_ok-plan.ensures.plan c.in_ok-plan.ensures.fit refused) c.plan_sheet.ensures.refused
