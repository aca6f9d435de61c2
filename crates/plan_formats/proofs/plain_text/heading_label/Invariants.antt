use Rattle.std.proofs.Common.{◌≡◌, map, take}
use Rattle.plan_formats.specs.Cells.{cell_of}
use Rattle.plan_formats.specs.Columns.{column_of}
use Rattle.plan_formats.specs.TableText.{heading_label}
use Rattle.plan_formats.proofs.plain_text.heading_label.Given as goal

-- the label of the columns so far
abbrev pub invariant-loop-column : goal.invariant-loop-column
invariant-loop-column l = cell_of l.label ≡ heading_label (map column_of (take l.column-index l.columns))
