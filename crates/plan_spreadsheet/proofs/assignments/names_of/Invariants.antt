use Rattle.std.proofs.Common.{◌≡◌, [], map, drop}
use Rattle.plan_table.specs.Csv.{row_of}
use Rattle.plan_spreadsheet.specs.Assignments.{names_from}
use Rattle.plan_spreadsheet.proofs.assignments.names_of.Given as goal

-- the names in the rows that are left, behind those so far, are all names
abbrev pub invariant-loop-row : goal.invariant-loop-row
invariant-loop-row l =
    names_from l.k (map (λ name. name.items) l.names.items) (map row_of (drop l.row-index l.rows))
    ≡ names_from l.k [] (map row_of l.rows)
