use Rattle.std.proofs.Common.{◌≡◌, ◌++◌, flat_map, take}
use Rattle.std.specs.String.{string_bytes}
use Rattle.plan_errors.specs.Parts.{part_text}
use Rattle.plan_errors.proofs.parts.push_parts.Given as goal

-- the parts so far follow the text
abbrev pub invariant-loop-part : goal.invariant-loop-part
invariant-loop-part l = string_bytes l.text ≡ string_bytes l.initial.text ++ flat_map part_text (take l.part-index l.parts)
