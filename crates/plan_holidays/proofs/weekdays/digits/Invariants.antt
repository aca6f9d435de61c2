use Rattle.std.proofs.Common.{◌≡◌, map, take}
use Rattle.std.specs.Prelude.{string_bytes}
use Rattle.plan_calendar.specs.CalendarText.{mark_digit}
use Rattle.plan_holidays.proofs.weekdays.digits.Given as goal

-- the digits of the marks so far
abbrev pub invariant-loop-mark : goal.invariant-loop-mark
invariant-loop-mark l = string_bytes l.text ≡ map mark_digit (take l.mark-index l.marks)
