use Rattle.std.proofs.Common.{◌≡◌, map, drop}
use Rattle.plan_formats.specs.Cells.{cell_of}
use Rattle.plan_formats.specs.Columns.{column_of}
use Rattle.plan_formats.specs.Tables.{cells_of}
use Rattle.plan_formats.specs.TableText.{label_from, label_of}
use Rattle.plan_formats.proofs.plain_text.label_of.Given as goal

-- the label so far, or that of the cells that are left, is the label
abbrev pub invariant-loop-cell : goal.invariant-loop-cell
invariant-loop-cell l =
    label_from (cell_of l.label) (map column_of l.left) (cells_of (drop l.cell-index l.row)) ≡ label_of (map column_of l.columns) (cells_of l.row)
