use Rattle.std.proofs.Common.{◌≤◌, length, map, sym, ◌∙◌, arith}
use Rattle.plan_formats.specs.Cells.{cell_of}
use Rattle.plan_formats.specs.Columns.{column_of}
use Rattle.plan_formats.proofs.TextLemmas.{label_done}
use Rattle.plan_formats.proofs.plain_text.label_of.Goals as goal

pub returns : goal.returns
returns c =
    let past : length c.args.row.now ≤ c.loop-cell.cell-index = omega arith in
    sym (label_done (cell_of c.loop-cell.label) (map column_of c.loop-cell.left.now) c.args.row.now c.loop-cell.cell-index past) ∙ c.loop-cell.invariant
