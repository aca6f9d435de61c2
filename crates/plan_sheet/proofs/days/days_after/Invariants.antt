use Rattle.std.proofs.Common.{take}
use Rattle.std.specs.List.{AllZip}
use Rattle.plan_sheet.specs.Days.{IsDayAfter}
use Rattle.plan_sheet.proofs.days.days_after.Given as goal

-- the day after each day so far
abbrev pub invariant-loop-day : goal.invariant-loop-day
invariant-loop-day l = AllZip IsDayAfter (take l.day-index l.days) l.nexts.items
