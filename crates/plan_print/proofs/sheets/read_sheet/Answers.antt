use Rattle.std.proofs.Common.{Bool, subst}
use Rattle.std.specs.Prelude.{String, is_some, string_bytes}
use Rattle.std.specs.Global.{Global}
use Rattle.std.proofs.lemmas.Result.{err_from_is_err_and}
use Rattle.plan_errors.specs.Output.{Refuses}
use Rattle.plan_documents.specs.Lines.{IfText}
use Rattle.plan_documents.specs.Lists.{text_of}
use Rattle.plan_documents.proofs.ListLemmas.{read_as, read_refused, reading_refused}
use Rattle.plan_documents.proofs.ErrorLemmas.{if_err_weaker}
use Rattle.plan_print.specs.Prints.{IsSheetBy, RefusesSheetBy, RefusesSheetRead}
use Rattle.plan_print.proofs.sheets.read_sheet.Goals as goal

pub returns-clause-made : goal.returns-clause-made
returns-clause-made g c =
    let a = c.args in
    let read = c.in_ok-read.read in
    let made = subst (λ (listed : Bool). IfText c.sheet_by.result (IsSheetBy listed a.sheet a.given read.subject c.text.result.now))
    c.is_some-listed.ensures c.sheet_by.ensures.made in
    read_as (λ kind s bytes (text : String Global). IsSheetBy (is_some kind) a.sheet a.given s bytes (string_bytes text)) a.subject a.file.now
    read.kind read.subject (text_of read.made a.file.now) c.text.result.now c.sheet_by.result c.in_ok-read.ensures.read c.text.ensures made

pub returns-clause-refused : goal.returns-clause-refused
returns-clause-refused g c =
    let a = c.args in
    let read = c.in_ok-read.read in
    if_err_weaker c.sheet_by.result (Refuses (RefusesSheetBy a.sheet a.given read.subject c.text.result.now)) (Refuses (RefusesSheetRead a.sheet a.subject a.given a.file.now))
    (λ e told. read_refused a.subject a.file.now (λ s bytes. RefusesSheetBy a.sheet a.given s bytes) read.kind read.subject (text_of read.made a.file.now)
    c.text.result.now e c.in_ok-read.ensures.read c.text.ensures told) c.sheet_by.ensures.refused

pub returns-in_err-read-clause-refused : goal.returns-in_err-read-clause-refused
returns-in_err-read-clause-refused g c =
    let a = c.args in
    let error = err_from_is_err_and c.from_residual.result c.from_residual.ensures.1 in
    rw (error.1, error.2) (reading_refused a.subject a.file.now (λ s bytes. RefusesSheetBy a.sheet a.given s bytes)
    c.in_err-read.field-0.0 c.in_err-read.ensures.refused)
