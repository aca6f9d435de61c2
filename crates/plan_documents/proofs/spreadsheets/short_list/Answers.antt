use Rattle.std.proofs.Common.{map}
use Rattle.plan_table.specs.Overrides.{override_of}
use Rattle.plan_documents.proofs.SpreadsheetLemmas.{fault_told}
use Rattle.plan_documents.proofs.spreadsheets.short_list.Goals as goal

pub returns-in-Err-clause-refused : goal.returns-in-Err-clause-refused
returns-in-Err-clause-refused c =
    fault_told (map override_of c.args.given.now) c.args.file.now c.in-Err.fault c.spreadsheet_refusal.result c.in-Err.ensures.refused c.spreadsheet_refusal.ensures
