use Rattle.std.proofs.Common.{◌≡◌, take}
use Rattle.plan_sheet.specs.Axis.{first_weekday}
use Rattle.plan_sheet.proofs.axis.first_weekday.Given as goal

-- the first weekday of the days so far
abbrev pub invariant-loop-day : goal.invariant-loop-day
invariant-loop-day l = l.least ≡ first_weekday (take l.day-index l.days)
