use Rattle.std.proofs.Common.{◌≡◌, map, take}
use Rattle.std.specs.Char.{to_ascii_lowercase}
use Rattle.plan_psplib.specs.Lines.{trim}
use Rattle.plan_table.proofs.header.key_of.Given as goal

-- the bytes so far
abbrev pub invariant-loop-byte : goal.invariant-loop-byte
invariant-loop-byte l = l.key.items ≡ map to_ascii_lowercase (take l.byte-index (trim l.cell))
