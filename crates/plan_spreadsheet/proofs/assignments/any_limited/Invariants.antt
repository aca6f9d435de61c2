use Rattle.std.proofs.Common.{◌≡◌, map, drop}
use Rattle.std.specs.List.{list_any}
use Rattle.plan_table.specs.Header.{head_of}
use Rattle.plan_table.specs.Overrides.{override_of}
use Rattle.plan_spreadsheet.specs.Assignments.{is_limited}
use Rattle.plan_spreadsheet.proofs.assignments.any_limited.Given as goal

-- such a name is among those that are left
abbrev pub invariant-loop-name : goal.invariant-loop-name
invariant-loop-name l =
    list_any (is_limited (map override_of l.overrides) (map head_of l.heads))
    (map (λ name. name.items) (drop l.name-index l.names))
    ≡ list_any (is_limited (map override_of l.overrides) (map head_of l.heads)) (map (λ name. name.items) l.names)
