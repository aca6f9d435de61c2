use Rattle.std.proofs.Common.{map, ap, ◌∙◌}
use Rattle.std.proofs.lemmas.Result.{err_from_is_err_and}
use Rattle.plan_table.specs.Csv.{row_of}
use Rattle.plan_table.specs.Overrides.{override_of}
use Rattle.plan_spreadsheet.specs.Options.{options_of}
use Rattle.plan_spreadsheet.specs.Rows.{filled}
use Rattle.plan_spreadsheet.proofs.OptionedLemmas.{no_rows, optioned_rows}
use Rattle.plan_spreadsheet.proofs.optioned.with_options.Goals as goal

pub returns-in_err-list-in-Ok-clause-refused : goal.returns-in_err-list-in-Ok-clause-refused
returns-in_err-list-in-Ok-clause-refused c =
    let error = err_from_is_err_and c.from_residual-in_err-list-in-Ok.result c.from_residual-in_err-list-in-Ok.ensures.1 in
    rw (error.1, error.2) (no_rows (options_of c.args.options.now) c.args.bytes.now c.utf8-2.result.now
    c.in_ok-decoded.decoded (map row_of c.in-Ok.rows.items) (map row_of c.deref-in-Ok.result.now) c.in_err-list-in-Ok.field-0.0
    c.utf8-2.ensures c.in_ok-decoded.ensures.text c.in-Ok.ensures
    (ap (map row_of) c.deref-in-Ok.ensures.value ∙ c.in_ok-rows-in-Ok.ensures ∙ ap (λ rows. filled (map row_of rows)) c.deref.ensures.value)
    c.in_err-list-in-Ok.ensures.refused)

pub returns-in-Ok-clause-list : goal.returns-in-Ok-clause-list
returns-in-Ok-clause-list c =
    optioned_rows (options_of c.args.options.now) (map override_of c.args.overrides.now) c.args.bytes.now c.utf8-2.result.now
    c.in_ok-decoded.decoded (map row_of c.in-Ok.rows.items) (map row_of c.deref-in-Ok.result.now) c.in_ok-list-in-Ok.list
    c.utf8-2.ensures c.in_ok-decoded.ensures.text c.in_ok-decoded.ensures.encoding c.in-Ok.ensures
    (ap (map row_of) c.deref-in-Ok.ensures.value ∙ c.in_ok-rows-in-Ok.ensures ∙ ap (λ rows. filled (map row_of rows)) c.deref.ensures.value)
    c.in_ok-list-in-Ok.ensures.list
