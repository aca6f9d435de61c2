use Rattle.std.proofs.Common.{◌≡◌, map, take}
use Rattle.plan_views.specs.IdComparisons.{id_start_of, without}
use Rattle.plan_views.proofs.id_comparisons.without.Given as goal

-- the activities so far whose id isn't in the other list
abbrev pub invariant-loop-s : goal.invariant-loop-s
invariant-loop-s l = map id_start_of l.found.items ≡ without (map id_start_of l.other) (map id_start_of (take l.s-index l.list))
