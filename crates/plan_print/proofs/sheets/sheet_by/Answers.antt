use Rattle.std.specs.Prelude.{string_bytes}
use Rattle.std.proofs.lemmas.Result.{IfOk-weaker}
use Rattle.plan_errors.specs.Output.{Refuses}
use Rattle.plan_documents.proofs.ErrorLemmas.{if_err_weaker, refuses_as}
use Rattle.plan_print.specs.Prints.{IsSheet, RefusesSheet, IsSheetBy, RefusesSheetBy}
use Rattle.plan_print.proofs.sheets.sheet_by.Goals as goal

pub returns-clause-made : goal.returns-clause-made
returns-clause-made g c =
    let a = c.args in
    let from = c.origin_for-origin.result in
    IfOk-weaker c.sheet_text.result (λ text. IsSheet a.listed a.sheet a.subject from a.file.now (string_bytes text))
    (λ text. IsSheetBy a.listed a.sheet a.given a.subject a.file.now (string_bytes text))
    (λ text made. (from, c.origin_for-origin.ensures, made)) c.sheet_text.ensures.made

pub returns-clause-refused : goal.returns-clause-refused
returns-clause-refused g c =
    let a = c.args in
    let from = c.origin_for-origin.result in
    if_err_weaker c.sheet_text.result (Refuses (RefusesSheet a.sheet a.subject from a.file.now)) (Refuses (RefusesSheetBy a.sheet a.given a.subject a.file.now))
    (λ e told. refuses_as (RefusesSheet a.sheet a.subject from a.file.now) (RefusesSheetBy a.sheet a.given a.subject a.file.now) e
    (λ line tells. (from, c.origin_for-origin.ensures, tells)) told) c.sheet_text.ensures.refused
