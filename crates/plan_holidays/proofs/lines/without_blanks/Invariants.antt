use Rattle.std.proofs.Common.{◌≡◌, take}
use Rattle.plan_holidays.specs.HolidayText.{without_blanks}
use Rattle.plan_holidays.proofs.lines.without_blanks.Given as goal

-- the bytes so far without blanks
abbrev pub invariant-loop-byte : goal.invariant-loop-byte
invariant-loop-byte l = l.shown.items ≡ without_blanks (take l.byte-index l.text)
