use Rattle.std.proofs.Common.{◌≡◌, map, drop}
use Rattle.std.specs.List.{list_any}
use Rattle.plan_table.specs.Csv.{row_of}
use Rattle.plan_table.specs.Settlement.{gives_capacity}
use Rattle.plan_spreadsheet.proofs.assignments.any_capacity.Given as goal

-- the capacities are in one of the rows that are left
abbrev pub invariant-loop-row : goal.invariant-loop-row
invariant-loop-row l =
    list_any (gives_capacity l.place l.k) (map row_of (drop l.row-index l.rows))
    ≡ list_any (gives_capacity l.place l.k) (map row_of l.rows)
