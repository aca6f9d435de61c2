use Rattle.std.proofs.Common.{◌≡◌, ◌++◌, take}
use Rattle.std.specs.String.{string_bytes}
use Rattle.plan_formats.specs.TableLines.{spaced_numbers}
use Rattle.plan_formats.proofs.line_text.push_numbers.Given as goal

-- the text, and behind it the numbers so far
abbrev pub invariant-loop-n : goal.invariant-loop-n
invariant-loop-n l = string_bytes l.text ≡ string_bytes l.fn.text ++ spaced_numbers (take l.n-index l.numbers)
