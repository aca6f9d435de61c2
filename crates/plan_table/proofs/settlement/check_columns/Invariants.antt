use Rattle.std.proofs.Common.{◌≡◌, map, drop}
use Rattle.plan_table.specs.Header.{head_of}
use Rattle.plan_table.specs.Settlement.{body_of, successors_from}
use Rattle.plan_table.proofs.settlement.check_columns.Given as goal

-- the columns that are left decide
abbrev pub invariant-loop-k : goal.invariant-loop-k
invariant-loop-k l = successors_from (body_of l.body) l.k (map head_of (drop l.k l.heads)) ≡ successors_from (body_of l.body) 0 (map head_of l.heads)
