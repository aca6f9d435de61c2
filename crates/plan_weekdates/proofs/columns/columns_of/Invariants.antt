use Rattle.std.proofs.Common.{◌≡◌, [], map, drop}
use Rattle.plan_table.specs.Header.{head_of}
use Rattle.plan_table.specs.Settlement.{body_of}
use Rattle.plan_weekdates.specs.DateColumns.{columns_at}
use Rattle.plan_weekdates.proofs.columns.columns_of.Given as goal

-- the columns that are left, behind those so far, give all
abbrev pub invariant-loop-k : goal.invariant-loop-k
invariant-loop-k l =
    columns_at (body_of l.body) l.columns.items l.k (map head_of (drop l.k l.heads))
    ≡ columns_at (body_of l.body) [] 0 (map head_of l.heads)
