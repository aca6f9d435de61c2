use Rattle.std.proofs.Common.{◌≡◌, map, take}
use Rattle.plan_table.specs.Csv.{row_of}
use Rattle.plan_spreadsheet.specs.Assignments.{assigned}
use Rattle.plan_spreadsheet.proofs.assignments.all_assigned.Given as goal

-- the rows so far
abbrev pub invariant-loop-row : goal.invariant-loop-row
invariant-loop-row l =
    map row_of l.all.items ≡ map (assigned l.k (map (λ name. name.items) l.names)) (map row_of (take l.row-index l.rows))
