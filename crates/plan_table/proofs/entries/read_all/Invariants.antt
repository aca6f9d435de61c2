use Rattle.std.proofs.Common.{◌≡◌, ◌≤◌, length, map, drop}
use Rattle.plan_table.specs.Csv.{row_of}
use Rattle.plan_table.specs.Header.{head_of}
use Rattle.plan_table.specs.Entries.{entries_of, entries_at, no_entries}
use Rattle.plan_table.specs.Predecessors.{label_of}
use Rattle.plan_table.proofs.entries.read_all.Given as goal

-- the rows that are left, behind what has been read, give all entries
abbrev pub invariant-loop-row : goal.invariant-loop-row
invariant-loop-row l = (entries_at (map head_of l.heads) l.place (map label_of l.ids) (entries_of l.entries) (map row_of (drop l.row-index l.rows))
    ≡ entries_at (map head_of l.heads) l.place (map label_of l.ids) no_entries (map row_of l.rows)) × (length l.entries.activities.items ≤ 500)
