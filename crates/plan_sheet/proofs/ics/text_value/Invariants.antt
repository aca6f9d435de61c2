use Rattle.std.proofs.Common.{◌≡◌, flat_map}
use Rattle.std.specs.String.{string_bytes}
use Rattle.plan_sheet.specs.Ics.{text_char}
use Rattle.plan_sheet.proofs.ics.text_value.Given as goal

-- the characters so far are written
abbrev pub invariant-loop-c : goal.invariant-loop-c
invariant-loop-c l = string_bytes l.value ≡ flat_map text_char l.yielded
