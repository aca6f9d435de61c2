use Rattle.std.proofs.Common.{◌≡◌, ◌+◌, ◌<◌, ◌^◌, ℕ, List, length}
use Rattle.plan_holidays.specs.HolidayText.{AreRead, lines}
use Rattle.plan_holidays.specs.Rest.{rest_lines, rest_size}
use Rattle.plan_holidays.proofs.holidays.days_in.Given as goal

-- the lines that were read name the days so far
abbrev pub invariant-loop-rest : goal.invariant-loop-rest
invariant-loop-rest l = record {
  before : List (List ℕ);
  read : AreRead (lines l.text) before (rest_lines l.rest) l.days.items;
  counted : l.number ≡ length before;
  fits : l.number + rest_size l.rest < 2 ^ 64;
}

abbrev pub decreases-loop-rest : goal.decreases-loop-rest
decreases-loop-rest l = rest_size l.rest
