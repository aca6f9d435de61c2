use Rattle.std.proofs.Common.{◌∙◌, List, ap, map, subst}
use Rattle.plan_table.specs.Listing.{rows_read}
use Rattle.plan_table.specs.Reading.{Fails, fault_of}
use Rattle.plan_table.specs.declared.fault.ReadError.{ReadError}
use Rattle.plan_weekback.specs.Columns.{with_plan}
use Rattle.plan_weekback.specs.Entries.{entry_of}
use Rattle.std.proofs.lemmas.Result.{err_from_is_err_and}
use Rattle.plan_spreadsheet.specs.Rows.{filled}
use Rattle.plan_list_back.specs.Texts.{IsUnwritten, text_with}
use Rattle.plan_table.specs.Csv.{row_of}
use Rattle.plan_table.specs.declared.records.Row as declared
use Rattle.plan_weekback.proofs.BackLemmas.{no_back, no_rows}
use Rattle.plan_weekback.proofs.back.with_texts.Goals as goal

pub returns-in-Err-Fault-clause-refused : goal.returns-in-Err-Fault-clause-refused
returns-in-Err-Fault-clause-refused c =
    no_rows c.args.late (map entry_of c.args.entries.now) c.args.file.now c.utf8-text.result.now c.in_ok-decoded.decoded
    (fault_of c.in-Err-Fault.field-0-0) c.utf8-text.ensures c.in_ok-decoded.ensures.text
    (subst (λ (e : ReadError). Fails e (rows_read c.utf8-text.result.now)) c.in-Err-Fault.field-0-is c.in-Err-Fault.ensures)

pub returns-in_err-made-clause-refused : goal.returns-in_err-made-clause-refused
returns-in_err-made-clause-refused c =
    let error = err_from_is_err_and c.from_residual-in_err-made.result c.from_residual-in_err-made.ensures.1 in
    rw (error.1, error.2)
    (no_back c.args.late (map entry_of c.args.entries.now) c.args.file.now c.utf8-text.result.now c.in_ok-decoded.decoded
    (map row_of c.in-Ok.rows.items) (map row_of c.in_ok-rows-in-Ok.rows.items) (map row_of c.in_ok-rows.rows.items) c.in_err-made.field-0.0
    c.utf8-text.ensures c.in_ok-decoded.ensures.text c.in-Ok.ensures
    (c.in_ok-rows-in-Ok.ensures ∙ ap (λ v. filled (map row_of v)) c.deref.ensures.value)
    (c.in_ok-rows.ensures ∙ ap (λ v. with_plan c.args.late (map entry_of c.args.entries.now) (map row_of v)) c.deref-2.ensures.value)
    (subst
    (λ (v : List declared.Row). IsUnwritten (text_with c.args.file.now c.utf8-text.result.now (map row_of v)) (map row_of v) c.in_err-made.field-0.0)
    c.deref-3.ensures.value c.in_err-made.ensures.refused))
