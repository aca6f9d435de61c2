use Rattle.std.proofs.Common.{◌≡◌, ◌≤◌, map, take}
use Rattle.plan_views.specs.IdComparisons.{count_moved, id_start_of}
use Rattle.plan_views.proofs.id_comparisons.count_moved.Given as goal

-- the activities so far
abbrev pub invariant-loop-s : goal.invariant-loop-s
invariant-loop-s l = record {
  counted : l.count ≡ count_moved (map id_start_of l.before) (map id_start_of (take l.s-index l.after));
  bound : l.count ≤ l.s-index;
}
