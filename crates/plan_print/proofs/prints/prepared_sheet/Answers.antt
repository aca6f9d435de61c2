use Rattle.std.proofs.Common.{[], refl}
use Rattle.std.specs.Prelude.{string_bytes}
use Rattle.std.proofs.lemmas.Result.{err_from_is_err_and}
use Rattle.plan_documents.specs.ListOptions.{text_in}
use Rattle.plan_cli.proofs.PreparedLemmas.{read_prepared, refuse_prepared, refuse_unprepared}
use Rattle.plan_print.specs.Prints.{IsSheetRead, RefusesSheetRead}
use Rattle.plan_print.proofs.prints.prepared_sheet.Goals as goal

pub returns-clause-made : goal.returns-clause-made
returns-clause-made g c =
    let a = c.args in
    read_prepared a.options [] [] a.file.now (text_in c.in_ok-list.list.list a.file.now) c.text.result.now
    (λ list. IsSheetRead a.sheet a.subject a.origin list (string_bytes c.in_ok-text.text)) refl c.text.ensures
    c.in_ok-list.ensures.text c.in_ok-text.ensures.made

pub returns-in_err-list-clause-refused : goal.returns-in_err-list-clause-refused
returns-in_err-list-clause-refused g c =
    let a = c.args in
    let error = err_from_is_err_and c.from_residual.result c.from_residual.ensures.1 in
    rw (error.1, error.2) (refuse_unprepared a.options [] [] a.file.now (RefusesSheetRead a.sheet a.subject a.origin)
    c.in_err-list.field-0.0 refl c.in_err-list.ensures.refused)

pub returns-in_err-text-clause-refused : goal.returns-in_err-text-clause-refused
returns-in_err-text-clause-refused g c =
    let a = c.args in
    let error = err_from_is_err_and c.from_residual-in_err-text.result c.from_residual-in_err-text.ensures.1 in
    rw (error.1, error.2) (refuse_prepared a.options [] [] a.file.now (text_in c.in_ok-list.list.list a.file.now) c.text.result.now
    (RefusesSheetRead a.sheet a.subject a.origin) c.in_err-text.field-0.0 refl c.text.ensures c.in_ok-list.ensures.text
    c.in_err-text.ensures.refused)
