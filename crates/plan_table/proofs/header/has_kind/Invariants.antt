use Rattle.std.proofs.Common.{◌≡◌, map, drop}
use Rattle.plan_table.specs.Header.{head_of, has_kind}
use Rattle.plan_table.proofs.header.has_kind.Given as goal

-- a column is of the kind if one of those that are left is
abbrev pub invariant-loop-head : goal.invariant-loop-head
invariant-loop-head l = has_kind l.kind (map head_of (drop l.head-index l.heads)) ≡ has_kind l.kind (map head_of l.heads)
