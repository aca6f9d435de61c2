use Rattle.std.proofs.lemmas.Result.{err_from_is_err_and}
use Rattle.plan_weekfile.proofs.SoundLemmas.{sound_listed, sound_plain, sound_table, sound_week}
use Rattle.plan_weekfile.proofs.listed.sound_week.Goals as goal

pub returns-clause-listed : goal.returns-clause-listed
returns-clause-listed c =
    sound_listed c.args.now c.args.text.now c.text-own.result.now c.utf8-2.result.now
    c.in_ok-list.list c.in_ok-plain.plain (record { table = c.in_ok-table.table; week = c.in_ok-week.week }) c.in_ok-list.ensures.list c.text-own.ensures
    c.in_ok-plain.ensures.plain c.utf8-2.ensures c.in_ok-table.ensures.found c.in_ok-week.ensures.week

pub returns-in_err-plain-clause-refused : goal.returns-in_err-plain-clause-refused
returns-in_err-plain-clause-refused c =
    let error = err_from_is_err_and c.from_residual-in_err-plain.result c.from_residual-in_err-plain.ensures.1 in
    rw error.1 (sound_plain c.args.now c.args.text.now c.text-own.result.now
    c.in_ok-list.list c.in_err-plain.field-0.0 error.0 c.in_ok-list.ensures.list c.text-own.ensures c.in_err-plain.ensures.refused error.2)

pub returns-in_err-table-clause-refused : goal.returns-in_err-table-clause-refused
returns-in_err-table-clause-refused c =
    let error = err_from_is_err_and c.from_residual-in_err-table.result c.from_residual-in_err-table.ensures.1 in
    rw error.1 (sound_table c.args.now c.args.text.now c.text-own.result.now c.utf8-2.result.now
    c.in_ok-list.list c.in_ok-plain.plain c.in_err-table.field-0.0 error.0 c.in_ok-list.ensures.list c.text-own.ensures
    c.in_ok-plain.ensures.plain c.utf8-2.ensures c.in_err-table.ensures.refused error.2)

pub returns-in_err-week-clause-refused : goal.returns-in_err-week-clause-refused
returns-in_err-week-clause-refused c =
    let error = err_from_is_err_and c.from_residual-in_err-week.result c.from_residual-in_err-week.ensures.1 in
    rw error.1 (sound_week c.args.now c.args.text.now c.text-own.result.now c.utf8-2.result.now
    c.in_ok-list.list c.in_ok-plain.plain c.in_ok-table.table c.in_err-week.field-0.0 error.0 c.in_ok-list.ensures.list c.text-own.ensures
    c.in_ok-plain.ensures.plain c.utf8-2.ensures c.in_ok-table.ensures.found c.in_err-week.ensures.refused error.2)
