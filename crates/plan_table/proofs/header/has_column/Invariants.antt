use Rattle.std.proofs.Common.{◌≡◌, map, drop}
use Rattle.plan_table.specs.Header.{head_of, has_column}
use Rattle.plan_table.proofs.header.has_column.Given as goal

-- a column has the header if one of those that are left has it
abbrev pub invariant-loop-head : goal.invariant-loop-head
invariant-loop-head l = has_column l.key (map head_of (drop l.head-index l.heads)) ≡ has_column l.key (map head_of l.heads)
