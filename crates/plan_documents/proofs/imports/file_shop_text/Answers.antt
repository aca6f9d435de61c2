use Rattle.std.proofs.Common.{[]}
use Rattle.std.proofs.lemmas.Result.{err_from_is_err_and}
use Rattle.plan_documents.specs.ImportRun.{IsShopImportOf, TellsNoShopImport}
use Rattle.plan_documents.proofs.SpreadsheetLemmas.{made_of_list, no_list_told, refused_of_list}
use Rattle.plan_documents.proofs.imports.file_shop_text.Goals as goal

pub returns-clause-made : goal.returns-clause-made
returns-clause-made c =
    made_of_list [] c.args.file.now c.utf8-2.result.now IsShopImportOf c.shop_import_text.result
    (c.in_ok-plain.plain, c.in_ok-plain.ensures.plain, c.utf8-2.ensures) c.shop_import_text.ensures.made

pub returns-clause-refused : goal.returns-clause-refused
returns-clause-refused c =
    refused_of_list [] c.args.file.now c.utf8-2.result.now TellsNoShopImport c.shop_import_text.result
    (c.in_ok-plain.plain, c.in_ok-plain.ensures.plain, c.utf8-2.ensures) c.shop_import_text.ensures.refused

pub returns-in_err-plain-clause-refused : goal.returns-in_err-plain-clause-refused
returns-in_err-plain-clause-refused c =
    let error = err_from_is_err_and c.from_residual.result c.from_residual.ensures.1 in
    rw (error.1, error.2) (no_list_told [] c.args.file.now TellsNoShopImport c.in_err-plain.field-0.0 c.in_err-plain.ensures.refused)
