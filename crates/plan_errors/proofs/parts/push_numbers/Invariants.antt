use Rattle.std.proofs.Common.{◌≡◌, ◌++◌, take}
use Rattle.std.specs.String.{string_bytes}
use Rattle.plan_errors.specs.Parts.{spaced}
use Rattle.plan_errors.proofs.parts.push_numbers.Given as goal

-- the numbers so far follow the text
abbrev pub invariant-loop-n : goal.invariant-loop-n
invariant-loop-n l = string_bytes l.text ≡ string_bytes l.initial.text ++ spaced (take l.n-index l.numbers)
