use Rattle.std.proofs.Common.{ℕ, ◌<◌, get_or}
use Rattle.plan_calendar.specs.CalendarText.{IsMarkDigit}
use Rattle.plan_calendar.proofs.marks.are_mark_digits.Given as goal

-- the bytes so far are digits of marks
abbrev pub invariant-loop-k : goal.invariant-loop-k
invariant-loop-k l = (k : ℕ) → k < l.k → IsMarkDigit (get_or l.bytes k 0)
