use Rattle.std.proofs.Common.{◌≡◌, map, take}
use Rattle.plan_spreadsheet.specs.Assignments.{amounts}
use Rattle.plan_spreadsheet.proofs.assignments.amounts.Given as goal

-- the cells so far
abbrev pub invariant-loop-name : goal.invariant-loop-name
invariant-loop-name l =
    map (λ cell. cell.items) l.cells.items
    ≡ amounts (map (λ name. name.items) (take l.name-index l.names)) (map (λ part. part.items) l.parts)
