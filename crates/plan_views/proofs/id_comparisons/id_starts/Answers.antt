use Rattle.std.proofs.Common.{map, ap, slice_index, ℕ, List, Option}
use Rattle.plan_table.specs.Names.{name_of}
use Rattle.plan_views.specs.IdComparisons.{id_start_at, id_start_of, started}
use Rattle.plan_views.proofs.RowLemmas.{next_flat}
use Rattle.plan_views.proofs.id_comparisons.id_starts.Goals as goal

pub loop-k-preserved : goal.loop-k-preserved
loop-k-preserved c = record {
  list = next_flat id_start_of (id_start_at (map name_of c.args.ids.now) c.args.starts.now) c.loop-k.k _ _ _ c.loop-k.invariant.list
      (ap (λ (id : Option (List ℕ)). started id (slice_index c.args.starts.now c.loop-k.k)) c.first_name-id.ensures)
      c.in_ok-push_start.ensures.list;
  limit = c.in_ok-push_start.ensures.limit;
}
