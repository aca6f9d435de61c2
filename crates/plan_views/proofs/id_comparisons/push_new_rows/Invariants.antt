use Rattle.std.proofs.Common.{◌≡◌, ◌++◌, map, take}
use Rattle.plan_formats.specs.Tables.{rows_of}
use Rattle.plan_views.specs.IdComparisons.{id_start_of, new_row}
use Rattle.plan_views.proofs.id_comparisons.push_new_rows.Given as goal

-- the rows so far
abbrev pub invariant-loop-s : goal.invariant-loop-s
invariant-loop-s l = rows_of l.rows.items ≡ rows_of l.initial.rows.items
    ++ map (new_row (map id_start_of l.before)) (map id_start_of (take l.s-index l.after))
