use Rattle.std.proofs.Common.{◌≡◌, ◌+◌, ◌-◌, [], length}
use Rattle.plan_psplib.specs.Precedence.{AreBelow, AreMarks, successors_at}
use Rattle.plan_psplib.proofs.sm.precedence.successors.Given as goal

-- reading the rest after the successors so far gives the total result, and those so far are marked
abbrev pub invariant-loop : goal.invariant-loop
invariant-loop l = record {
  reads : successors_at l.jobs (l.count - l.counter) l.found.items l.words ≡ successors_at l.jobs l.count [] l.fn.words;
  marked : AreMarks l.row l.marks.items l.found.items;
  below : AreBelow (l.row + 1) l.marks.items;
  room : length l.marks.items ≡ l.jobs + 1;
}
