use Rattle.std.proofs.Common.{◌≡◌, flat_map}
use Rattle.std.specs.String.{string_bytes}
use Rattle.plan_errors.specs.HintText.{masked_char}
use Rattle.plan_errors.proofs.hints.masked.Given as goal

-- the characters so far are shown
abbrev pub invariant-loop-c : goal.invariant-loop-c
invariant-loop-c l = string_bytes l.shown ≡ flat_map masked_char l.yielded
