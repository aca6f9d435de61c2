use Rattle.std.proofs.Common.{◌≡◌, ◌++◌, map, take}
use Rattle.plan_table.specs.Csv.{row_of}
use Rattle.plan_list_back.specs.ListBack.{row_with, times_of}
use Rattle.plan_list_back.proofs.columns.push_rows.Given as goal

-- the rows before, and those so far
abbrev pub invariant-loop-row : goal.invariant-loop-row
invariant-loop-row l =
    map row_of l.all.items
    ≡ map row_of l.fn.all.items ++ map (row_with l.field (map times_of l.times) l.k) (map row_of (take l.row-index l.rows))
