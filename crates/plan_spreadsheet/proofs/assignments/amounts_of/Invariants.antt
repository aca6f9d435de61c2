use Rattle.std.proofs.Common.{◌≡◌, [], map, drop}
use Rattle.plan_spreadsheet.specs.Assignments.{amounts_from}
use Rattle.plan_spreadsheet.proofs.assignments.amounts_of.Given as goal

-- the amounts in the parts that are left, behind those so far, are all amounts
abbrev pub invariant-loop-part : goal.invariant-loop-part
invariant-loop-part l =
    amounts_from l.name l.text.items (map (λ part. part.items) (drop l.part-index l.parts))
    ≡ amounts_from l.name [] (map (λ part. part.items) l.parts)
