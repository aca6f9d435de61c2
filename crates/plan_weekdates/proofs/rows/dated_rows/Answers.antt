use Rattle.std.proofs.lemmas.Result.{err_from_is_err_and}
use Rattle.plan_weekdates.proofs.RowLemmas.{row_fails, row_more}
use Rattle.plan_weekdates.proofs.rows.dated_rows.Goals as goal

pub loop-row-preserved : goal.loop-row-preserved
loop-row-preserved c =
    row_more c.args.calendar.now c.args.columns.now c.args.rows.now c.loop-row.made.items c.push.new.self.items c.loop-row.row-index c.row-item.result c.in_ok-new.new
    c.loop-row-test.true c.row-item.is c.loop-row.invariant c.in_ok-new.ensures.made c.in_ok-push.ensures.items

pub returns-in_err-new-clause-refused : goal.returns-in_err-new-clause-refused
returns-in_err-new-clause-refused c =
    let error = err_from_is_err_and c.from_residual.result c.from_residual.ensures.1 in
    rw (error.1, error.2) (row_fails c.args.calendar.now c.args.columns.now c.args.rows.now c.loop-row.made.items c.loop-row.row-index c.row-item.result
    c.in_err-new.field-0.0 c.loop-row-test.true c.row-item.is c.loop-row.invariant c.in_err-new.ensures.refused)
