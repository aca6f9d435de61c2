use Rattle.std.proofs.Common.{◌≡◌, ◌≤◌, length, map, take}
use Rattle.plan_report.specs.IdRows.{entries_with}
use Rattle.plan_report.specs.Sheet.{id_entry_of, row_of}
use Rattle.plan_report.proofs.id_rows.count_entries.Given as goal

-- the activities so far with the id of the row
abbrev pub invariant-loop-entry : goal.invariant-loop-entry
invariant-loop-entry l = record {
  counted : l.count ≡ length (entries_with l.form (map id_entry_of (take l.entry-index l.entries)) (row_of l.row));
  bound : l.count ≤ l.entry-index;
}
