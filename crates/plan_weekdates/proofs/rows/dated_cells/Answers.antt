use Rattle.std.proofs.lemmas.Result.{err_from_is_err_and}
use Rattle.plan_weekdates.proofs.RowLemmas.{cell_fails, cell_more}
use Rattle.plan_weekdates.proofs.rows.dated_cells.Goals as goal

pub loop-k-preserved : goal.loop-k-preserved
loop-k-preserved c =
    cell_more c.args.calendar.now c.args.columns.now c.args.cells.now c.loop-k.made.items c.push.new.self.items c.loop-k.k c.index-cells-k.result c.in_ok-new.new
    c.column_of.result c.deref.result.now c.loop-k-test.true c.index-cells-k.is c.loop-k.invariant c.column_of.ensures c.deref.ensures.value c.in_ok-new.ensures.made
    c.in_ok-push.ensures.items

pub returns-in_err-new-clause-refused : goal.returns-in_err-new-clause-refused
returns-in_err-new-clause-refused c =
    let error = err_from_is_err_and c.from_residual.result c.from_residual.ensures.1 in
    rw (error.1, error.2) (cell_fails c.args.calendar.now c.args.columns.now c.args.line c.args.cells.now c.loop-k.made.items c.loop-k.k c.index-cells-k.result
    c.column_of.result c.deref.result.now c.in_err-new.field-0.0 c.loop-k-test.true c.index-cells-k.is c.loop-k.invariant c.column_of.ensures c.deref.ensures.value
    c.in_err-new.ensures.refused)
