use Rattle.std.proofs.Common.{◌≡◌, map, drop}
use Rattle.plan_formats.specs.Columns.{column_of}
use Rattle.plan_formats.specs.TableText.{has_lines}
use Rattle.plan_formats.proofs.plain_text.has_lines.Given as goal

-- if a column has whole lines, it is one of those that are left
abbrev pub invariant-loop-column : goal.invariant-loop-column
invariant-loop-column l = has_lines (map column_of (drop l.column-index l.columns)) ≡ has_lines (map column_of l.columns)
