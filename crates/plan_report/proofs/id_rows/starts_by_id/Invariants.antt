use Rattle.std.proofs.Common.{◌≡◌, ◌≤◌, [], length, map, drop}
use Rattle.std.specs.Prelude.{All}
use Rattle.plan_gantt.specs.Limits.{latest_start}
use Rattle.plan_report.specs.IdRows.{starts_by_id}
use Rattle.plan_report.specs.Sheet.{id_entry_of, row_of}
use Rattle.plan_report.proofs.id_rows.starts_by_id.Given as goal

-- the activities that are left, behind the starts so far, give all starts
abbrev pub invariant-loop-entry : goal.invariant-loop-entry
invariant-loop-entry l = record {
  starts : starts_by_id l.form l.last (map row_of l.rows) l.starts.items (map id_entry_of (drop l.entry-index l.entries))
      ≡ starts_by_id l.form l.last (map row_of l.rows) [] (map id_entry_of l.entries);
  early : All (λ t. t ≤ latest_start) l.starts.items;
  whole : length l.starts.items ≡ l.entry-index;
}
