use Rattle.std.proofs.Common.{◌≡◌, ◌≤◌, map, flat_map}
use Rattle.std.specs.Prelude.{All}
use Rattle.std.specs.List.{range_with_len}
use Rattle.plan_gantt.specs.Limits.{latest_start}
use Rattle.plan_table.specs.Names.{name_of}
use Rattle.plan_views.specs.IdComparisons.{id_start_at, id_start_of}
use Rattle.plan_views.proofs.id_comparisons.id_starts.Given as goal

-- the activities so far that have an id
abbrev pub invariant-loop-k : goal.invariant-loop-k
invariant-loop-k l = record {
  list : map id_start_of l.list.items ≡ flat_map (id_start_at (map name_of l.ids) l.starts) (range_with_len 0 l.k);
  limit : All (λ s. s.start ≤ latest_start) l.list.items;
}
