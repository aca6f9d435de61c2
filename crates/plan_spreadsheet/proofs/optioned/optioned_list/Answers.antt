use Rattle.std.proofs.Common.{map}
use Rattle.std.proofs.lemmas.Result.{err_from_is_err_and}
use Rattle.plan_table.specs.Overrides.{override_of}
use Rattle.plan_spreadsheet.specs.Options.{options_of}
use Rattle.plan_spreadsheet.proofs.OptionedLemmas.{touched_list, touched_refused, untouched_list}
use Rattle.plan_spreadsheet.proofs.optioned.optioned_list.Goals as goal

pub returns-then-untouched-clause-list : goal.returns-then-untouched-clause-list
returns-then-untouched-clause-list c =
    untouched_list (options_of c.args.options.now) (map override_of c.args.overrides.now) c.args.bytes.now _
    c.in_ok-untouched.untouched c.in_ok-untouched.ensures c.if-untouched.true c.staying.ensures

pub returns-clause-list : goal.returns-clause-list
returns-clause-list c =
    touched_list (options_of c.args.options.now) (map override_of c.args.overrides.now) c.args.bytes.now c.in_ok-list.list
    c.in_ok-untouched.untouched c.in_ok-untouched.ensures c.if-untouched.false c.in_ok-list.ensures.list

pub returns-in_err-list-clause-refused : goal.returns-in_err-list-clause-refused
returns-in_err-list-clause-refused c =
    let error = err_from_is_err_and c.from_residual-in_err-list.result c.from_residual-in_err-list.ensures.1 in
    rw (error.1, error.2) (touched_refused (options_of c.args.options.now) c.args.bytes.now
    c.in_err-list.field-0.0 c.in_ok-untouched.untouched c.in_ok-untouched.ensures c.if-untouched.false c.in_err-list.ensures.refused)
