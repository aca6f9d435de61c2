use Rattle.std.proofs.Common.{◌≡◌, [], map, drop}
use Rattle.plan_table.specs.Header.{head_of}
use Rattle.plan_table.specs.Settlement.{body_of, settled_at}
use Rattle.plan_table.proofs.settlement.settle_heads.Given as goal

-- the columns that are left, behind the settled ones, give all columns
abbrev pub invariant-loop-k : goal.invariant-loop-k
invariant-loop-k l = settled_at (body_of l.body) (map head_of l.settled.items) l.k (map head_of (drop l.k l.heads)) ≡ settled_at (body_of l.body) [] 0 (map head_of l.heads)
