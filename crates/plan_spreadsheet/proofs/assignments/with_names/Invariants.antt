use Rattle.std.proofs.Common.{◌≡◌, map, drop}
use Rattle.plan_spreadsheet.specs.Assignments.{names_in}
use Rattle.plan_spreadsheet.proofs.assignments.with_names.Given as goal

-- the names of the parts that are left, behind those so far, are all names
abbrev pub invariant-loop-part : goal.invariant-loop-part
invariant-loop-part l =
    names_in (map (λ name. name.items) l.all.items) (map (λ part. part.items) (drop l.part-index l.parts))
    ≡ names_in (map (λ name. name.items) l.fn.names.items) (map (λ part. part.items) l.parts)
