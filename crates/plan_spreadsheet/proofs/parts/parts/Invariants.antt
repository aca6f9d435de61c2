use Rattle.std.proofs.Common.{◌≡◌, map, drop}
use Rattle.plan_spreadsheet.specs.Assignments as spec
use Rattle.plan_spreadsheet.proofs.parts.parts.Given as goal

-- the bytes that are left, behind the parts so far, give all parts
abbrev pub invariant-loop-byte : goal.invariant-loop-byte
invariant-loop-byte l =
    spec.parts_from (map (λ part. part.items) l.parts.items) l.part.items (drop l.byte-index l.cell)
    ≡ spec.parts l.cell
