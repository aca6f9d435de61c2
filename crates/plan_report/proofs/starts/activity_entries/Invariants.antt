use Rattle.std.proofs.Common.{◌≡◌, ◌≤◌, map}
use Rattle.std.specs.Prelude.{All}
use Rattle.std.specs.List.{range_with_len}
use Rattle.plan_report.specs.Sheet.{entry_of}
use Rattle.plan_report.specs.StartsText.{activity_entry}
use Rattle.plan_report.proofs.starts.activity_entries.Given as goal

-- the entries of the activities so far
abbrev pub invariant-loop-k : goal.invariant-loop-k
invariant-loop-k l = record {
  made : map entry_of l.entries.items ≡ map (activity_entry l.network) (range_with_len 1 l.k);
  short : All (λ entry. entry.duration ≤ 10000) l.entries.items;
}
