use Rattle.std.proofs.Common.{◌≡◌, map, take}
use Rattle.plan_views.specs.IdComparisons.{id_start_of, longest}
use Rattle.plan_views.proofs.id_comparisons.longest.Given as goal

-- the longest so far
abbrev pub invariant-loop-s : goal.invariant-loop-s
invariant-loop-s l = l.longest ≡ longest l.most (map id_start_of (take l.s-index l.list))
