use Rattle.std.proofs.Common.{◌≡◌, ◌++◌, map, drop}
use Rattle.plan_formats.specs.Columns.{column_of}
use Rattle.plan_formats.specs.Tables.{cells_of}
use Rattle.plan_formats.specs.TableText.{base_of}
use Rattle.plan_formats.proofs.plain_text.base_of.Given as goal

-- the characters so far, and behind them those of the cells that are left, are all characters
abbrev pub invariant-loop-cell : goal.invariant-loop-cell
invariant-loop-cell l =
    l.text.items ++ base_of (map column_of l.left) (cells_of (drop l.cell-index l.row))
    ≡ base_of (map column_of l.columns) (cells_of l.row)
