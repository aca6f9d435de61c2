use Rattle.std.proofs.Common.{ℕ, ◌≡◌, ◌<◌, length}
use Rattle.plan_net.specs.Marks.{HasNoMark}
use Rattle.plan_net.specs.Indexed.{row_at}
use Rattle.plan_net.proofs.tables.no_marks.Given as goal

-- the rows so far are complete and without marks
abbrev pub invariant-loop : goal.invariant-loop
invariant-loop l = record {
  rows : length l.marks.items ≡ l.counter;
  columns : (k : ℕ) → k < length l.marks.items → length (row_at l.marks.items k) ≡ l.count;
  empty : HasNoMark l.marks.items;
}
