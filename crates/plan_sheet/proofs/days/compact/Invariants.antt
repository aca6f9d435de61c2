use Rattle.std.proofs.Common.{◌≡◌, flat_map}
use Rattle.std.specs.String.{string_bytes}
use Rattle.plan_sheet.specs.Days.{digit_of}
use Rattle.plan_sheet.proofs.days.compact.Given as goal

-- the digits so far are written
abbrev pub invariant-loop-c : goal.invariant-loop-c
invariant-loop-c l = string_bytes l.text ≡ flat_map digit_of l.yielded
