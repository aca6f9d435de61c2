use Rattle.std.proofs.Common.{◌≡◌, map, drop, fold}
use Rattle.plan_table.specs.Overrides.{given, overridden, override_of}
use Rattle.plan_table.proofs.overrides.given.Given as goal

-- the amount so far, with the overrides that are left, gives the amount
abbrev pub invariant-loop-other : goal.invariant-loop-other
invariant-loop-other l = fold (overridden l.name) l.found (map override_of (drop l.other-index l.overrides)) ≡ given (map override_of l.overrides) l.name
