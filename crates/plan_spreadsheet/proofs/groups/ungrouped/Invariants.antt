use Rattle.std.proofs.Common.{◌≡◌, [], map, drop}
use Rattle.plan_table.specs.Csv.{row_of}
use Rattle.plan_spreadsheet.specs.Groups.{outline_of, ungrouped}
use Rattle.plan_spreadsheet.proofs.groups.ungrouped.Given as goal

-- the rows that are left, behind those that are kept, give all rows that are kept
abbrev pub invariant-loop-k : goal.invariant-loop-k
invariant-loop-k l =
    ungrouped (outline_of l.outline) (map row_of l.kept.items) (map row_of (drop l.k l.rows))
    ≡ ungrouped (outline_of l.outline) [] (map row_of l.rows)
