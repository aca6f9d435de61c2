use Rattle.plan_spreadsheet.proofs.AssignmentLemmas.{spliced_cells}
use Rattle.plan_spreadsheet.proofs.assignments.spliced.Goals as goal

pub returns : goal.returns
returns c =
    spliced_cells c.args.k c.args.new.now c.args.cells.now c.new-all.result.items c.push_cells.new.before.items
    c.push_cells-2.new.before.items c.push_cells-3.new.before.items c.new-all.ensures.items c.in_ok-push_cells.ensures
    c.in_ok-push_cells-2.ensures c.in_ok-push_cells-3.ensures
