use Rattle.std.proofs.Common.{◌≡◌, take}
use Rattle.plan_formats.specs.Columns.{characters}
use Rattle.plan_formats.proofs.utf8.characters.Given as goal

-- the characters so far
abbrev pub invariant-loop-byte : goal.invariant-loop-byte
invariant-loop-byte l = l.count ≡ characters (take l.byte-index l.text)
