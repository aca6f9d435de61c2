use Rattle.std.proofs.Common.{◌≡◌, map, drop}
use Rattle.std.specs.List.{list_any}
use Rattle.plan_table.specs.Cells.{same_name}
use Rattle.plan_spreadsheet.proofs.assignments.has_name.Given as goal

-- the name is among those that are left
abbrev pub invariant-loop-other : goal.invariant-loop-other
invariant-loop-other l =
    list_any (λ other. same_name other l.name) (map (λ other. other.items) (drop l.other-index l.names))
    ≡ list_any (λ other. same_name other l.name) (map (λ other. other.items) l.names)
