use Rattle.std.proofs.Common.{map}
use Rattle.std.proofs.lemmas.Result.{err_from_is_err_and}
use Rattle.plan_table.specs.Overrides.{override_of}
use Rattle.plan_spreadsheet.specs.Options.{options_of}
use Rattle.plan_spreadsheet.proofs.PreparedLemmas.{touched_refused, untouched_list}
use Rattle.plan_spreadsheet.proofs.prepared.plain_list_with.Goals as goal

pub returns-then-untouched-clause-plain : goal.returns-then-untouched-clause-plain
returns-then-untouched-clause-plain c =
    untouched_list (options_of c.args.options.now) (map override_of c.args.overrides.now) c.args.bytes.now c.in_ok-list.list
    c.in_ok-untouched.untouched c.in_ok-untouched.ensures c.if-untouched.true c.in_ok-list.ensures.plain

pub returns-in_err-list-2-clause-refused : goal.returns-in_err-list-2-clause-refused
returns-in_err-list-2-clause-refused c =
    let error = err_from_is_err_and c.from_residual-in_err-list-2.result c.from_residual-in_err-list-2.ensures.1 in
    rw (error.1, error.2) (touched_refused (options_of c.args.options.now) (map override_of c.args.overrides.now) c.args.bytes.now
    c.in_err-list-2.field-0.0 c.in_ok-untouched.untouched c.in_ok-untouched.ensures c.if-untouched.false c.in_err-list-2.ensures.refused)
