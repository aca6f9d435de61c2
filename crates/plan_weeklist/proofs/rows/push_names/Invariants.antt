use Rattle.std.proofs.Common.{◌≡◌, map, drop}
use Rattle.plan_weeklist.specs.Rows.{named_from, shortage_of}
use Rattle.plan_weeklist.proofs.rows.push_names.Given as goal

-- the names that are left, behind what is absent so far, give all that is absent
abbrev pub invariant-loop-name : goal.invariant-loop-name
invariant-loop-name l =
    named_from l.line (map (λ part. part.items) l.parts) (map shortage_of l.before.items) (map (λ name. name.items) (drop l.name-index l.names))
    ≡ named_from l.line (map (λ part. part.items) l.parts) (map shortage_of l.fn.before.items) (map (λ name. name.items) l.names)
