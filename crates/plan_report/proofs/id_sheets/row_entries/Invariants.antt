use Rattle.std.proofs.Common.{◌≡◌, ◌≤◌, ◌-◌, map}
use Rattle.std.specs.Prelude.{All}
use Rattle.std.specs.List.{range_with_len}
use Rattle.plan_table.specs.Names.{name_of}
use Rattle.plan_report.specs.Sheet.{id_entry_of}
use Rattle.plan_report.specs.IdSheets.{id_entry}
use Rattle.plan_report.proofs.id_sheets.row_entries.Given as goal

-- the entries of the activities so far
abbrev pub invariant-loop-j : goal.invariant-loop-j
invariant-loop-j l = record {
  made : map id_entry_of l.entries.items ≡ map (id_entry (map name_of l.ids) l.network) (range_with_len 2 (l.j - 2));
  short : All (λ entry. entry.entry.duration ≤ 10000) l.entries.items;
}
