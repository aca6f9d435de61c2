use Rattle.std.proofs.Common.{◌≡◌, map, take}
use Rattle.plan_formats.specs.Tables.{rows_of}
use Rattle.plan_views.specs.LineLists.{line_row}
use Rattle.plan_views.proofs.line_lists.rows.Given as goal

-- the rows of the names so far
abbrev pub invariant-loop-name : goal.invariant-loop-name
invariant-loop-name l = rows_of l.rows.items ≡ map line_row (map (λ name. name.items) (take l.name-index l.names))
