use Rattle.std.proofs.Common.{◌≡◌, map, drop}
use Rattle.plan_table.specs.Header.{head_of}
use Rattle.plan_table.specs.Overrides.{override_of}
use Rattle.plan_table.specs.Settlement.{ids_from}
use Rattle.plan_table.proofs.settlement.ids_from.Given as goal

-- the column is among those that are left
abbrev pub invariant-loop-k : goal.invariant-loop-k
invariant-loop-k l = ids_from (map override_of l.overrides) l.k (map head_of (drop l.k l.heads)) ≡ ids_from (map override_of l.overrides) 0 (map head_of l.heads)
