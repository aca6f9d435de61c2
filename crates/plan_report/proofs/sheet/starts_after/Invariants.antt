use Rattle.std.proofs.Common.{◌≡◌, ◌≤◌, [], map, drop, length}
use Rattle.plan_report.specs.Sheet.{entry_of, row_of, starts_after}
use Rattle.plan_report.proofs.sheet.starts_after.Given as goal

-- the rows that are left, behind the starts so far, give all starts
abbrev pub invariant-loop-entry : goal.invariant-loop-entry
invariant-loop-entry l = record {
  left : starts_after l.starts.items l.line l.end (map entry_of (drop l.entry-index l.entries)) (map row_of (drop l.at l.rows))
      ≡ starts_after [] l.last 0 (map entry_of l.entries) (map row_of l.rows);
  within : l.at ≤ length l.rows;
}
