use Rattle.std.proofs.Common.{◌-◌, ◌≤◌}
use Rattle.jiff_core.specs.Date.{epoch_day}
use Rattle.plan_calendar.specs.WorkingDay.{working_days}
use Rattle.plan_weekdates.proofs.calendar.count_within.Given as goal

-- the number is between both ends
abbrev pub invariant-loop-low : goal.invariant-loop-low
invariant-loop-low l = record {
  least : l.low ≤ working_days l.calendar (epoch_day l.calendar.start) l.days;
  most : working_days l.calendar (epoch_day l.calendar.start) l.days ≤ l.high;
}

abbrev pub decreases-loop-low : goal.decreases-loop-low
decreases-loop-low l = l.high - l.low
