use Rattle.std.proofs.Common.{◌≡◌, map, take}
use Rattle.plan_formats.specs.Columns.{column_of}
use Rattle.plan_views.specs.LinkColumns.{wide_column}
use Rattle.plan_views.proofs.links.wide_columns.Given as goal

-- the columns so far
abbrev pub invariant-loop-column : goal.invariant-loop-column
invariant-loop-column l = map column_of l.made.items ≡ map wide_column (map column_of (take l.column-index l.columns))
