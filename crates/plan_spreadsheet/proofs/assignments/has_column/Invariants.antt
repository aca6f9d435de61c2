use Rattle.std.proofs.Common.{◌≡◌, map, drop}
use Rattle.std.specs.List.{list_any}
use Rattle.plan_table.specs.Cells.{same_name}
use Rattle.plan_table.specs.Header.{head_of}
use Rattle.plan_spreadsheet.proofs.assignments.has_column.Given as goal

-- the column is among those that are left
abbrev pub invariant-loop-head : goal.invariant-loop-head
invariant-loop-head l =
    list_any (λ head. same_name head.name l.name) (map head_of (drop l.head-index l.heads))
    ≡ list_any (λ head. same_name head.name l.name) (map head_of l.heads)
