use Rattle.std.proofs.Common.{◌≡◌, map, drop}
use Rattle.plan_views.specs.IdComparisons.{id_start_of, start_of}
use Rattle.plan_views.proofs.id_comparisons.start_of.Given as goal

-- the activities that are left decide
abbrev pub invariant-loop-s : goal.invariant-loop-s
invariant-loop-s l = start_of (map id_start_of (drop l.s-index l.list)) l.id ≡ start_of (map id_start_of l.list) l.id
