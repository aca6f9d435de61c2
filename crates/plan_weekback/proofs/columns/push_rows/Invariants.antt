use Rattle.std.proofs.Common.{◌≡◌, ◌++◌, map, take}
use Rattle.plan_table.specs.Csv.{row_of}
use Rattle.plan_weekback.specs.Columns.{row_with}
use Rattle.plan_weekback.specs.Entries.{entry_of}
use Rattle.plan_weekback.proofs.columns.push_rows.Given as goal

-- the rows before, and those so far
abbrev pub invariant-loop-row : goal.invariant-loop-row
invariant-loop-row l =
    map row_of l.all.items
    ≡ map row_of l.fn.all.items ++ map (row_with l.field (map entry_of l.entries) l.k) (map row_of (take l.row-index l.rows))
