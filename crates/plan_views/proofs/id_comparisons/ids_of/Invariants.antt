use Rattle.std.proofs.Common.{◌≡◌, map, take}
use Rattle.plan_views.specs.IdComparisons.{id_start_of, ids_of}
use Rattle.plan_views.proofs.id_comparisons.ids_of.Given as goal

-- the ids so far
abbrev pub invariant-loop-s : goal.invariant-loop-s
invariant-loop-s l = map (λ id. id.items) l.ids.items ≡ ids_of (map id_start_of (take l.s-index l.list))
