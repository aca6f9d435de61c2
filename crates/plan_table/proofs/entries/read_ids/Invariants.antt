use Rattle.std.proofs.Common.{◌≡◌, ◌≤◌, [], length, map, drop}
use Rattle.plan_table.specs.Csv.{row_of}
use Rattle.plan_table.specs.Entries.{ids_at}
use Rattle.plan_table.specs.Predecessors.{label_of}
use Rattle.plan_table.proofs.entries.read_ids.Given as goal

-- the ids so far, with those of the rows that are left, are all ids
abbrev pub invariant-loop-row : goal.invariant-loop-row
invariant-loop-row l = (ids_at l.place l.names (map label_of l.ids.items) (map row_of (drop l.row-index l.rows)) ≡ ids_at l.place l.names [] (map row_of l.rows)) × (length l.ids.items ≤ 500)
