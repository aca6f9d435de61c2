use Rattle.std.proofs.Common.{◌≡◌, ◌++◌, ◌*◌, drop}
use Rattle.plan_encoding.specs.Utf16.{units_of}
use Rattle.plan_encoding.proofs.utf16.units.Given as goal

-- the units so far, with those of the bytes that are left, are all units
abbrev pub invariant-loop-i : goal.invariant-loop-i
invariant-loop-i l = l.units.items ++ units_of l.order (drop (l.i * 2) l.bytes) ≡ units_of l.order l.bytes
