use Rattle.std.proofs.Common.{◌≡◌, ◌+◌, ◌-◌, [], length}
use Rattle.std.specs.List.{AllByRecursion}
use Rattle.plan_net.specs.Successors.{IsRow, arcs_of_rows, rows_in}
use Rattle.plan_psplib.specs.Precedence.{AreBelow, precedence_rows_at}
use Rattle.plan_psplib.proofs.sm.precedence.precedence_rows.Given as goal

-- reading the rest after the arcs of the rows so far gives the total result
abbrev pub invariant-loop-done : goal.invariant-loop-done
invariant-loop-done l = record {
  reads : precedence_rows_at l.jobs (l.jobs - l.done) (l.done + 1) (arcs_of_rows 1 (rows_in l.rows.items)) l.words ≡ precedence_rows_at l.jobs l.jobs 1 [] l.fn.words;
  whole : length l.rows.items ≡ l.done;
  each : AllByRecursion (IsRow l.jobs) (rows_in l.rows.items);
  below : AreBelow (l.done + 1) l.marks.items;
  room : length l.marks.items ≡ l.jobs + 1;
}
