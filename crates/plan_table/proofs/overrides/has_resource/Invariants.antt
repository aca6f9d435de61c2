use Rattle.std.proofs.Common.{◌≡◌, map, drop}
use Rattle.std.specs.List.{list_any}
use Rattle.plan_table.specs.Header.{head_of}
use Rattle.plan_table.specs.Overrides.{is_resource}
use Rattle.plan_table.proofs.overrides.has_resource.Given as goal

-- the resource is among the columns that are left
abbrev pub invariant-loop-head : goal.invariant-loop-head
invariant-loop-head l = list_any (is_resource l.name) (map head_of (drop l.head-index l.heads)) ≡ list_any (is_resource l.name) (map head_of l.heads)
