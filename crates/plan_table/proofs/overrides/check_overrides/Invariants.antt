use Rattle.std.proofs.Common.{◌≡◌, map, drop}
use Rattle.plan_table.specs.Header.{head_of}
use Rattle.plan_table.specs.Overrides.{override_of, overrides_checked}
use Rattle.plan_table.proofs.overrides.check_overrides.Given as goal

-- what is left to check decides
abbrev pub invariant-loop-given : goal.invariant-loop-given
invariant-loop-given l = overrides_checked (map head_of l.heads) (map override_of (drop l.given-index l.overrides)) ≡ overrides_checked (map head_of l.heads) (map override_of l.overrides)
