use Rattle.std.proofs.Common.{◌≡◌, ◌≤◌, map}
use Rattle.std.specs.Prelude.{All}
use Rattle.std.specs.List.{range_with_len}
use Rattle.plan_report.specs.Sheet.{entry_of}
use Rattle.plan_report.specs.StartsText.{step_entry}
use Rattle.plan_report.proofs.starts.step_entries.Given as goal

-- the entries of the steps so far
abbrev pub invariant-loop-x : goal.invariant-loop-x
invariant-loop-x l = record {
  made : map entry_of l.entries.items ≡ map (step_entry l.shop) (range_with_len 0 l.x);
  short : All (λ entry. entry.duration ≤ 10000) l.entries.items;
}
