use Rattle.std.proofs.Common.{◌≡◌, map, drop}
use Rattle.plan_table.specs.Header.{head_of}
use Rattle.plan_table.specs.Settlement.{body_of}
use Rattle.plan_weeklist.specs.Columns.{dated_from}
use Rattle.plan_weeklist.proofs.columns.dated_place.Given as goal

-- the column is among those that are left
abbrev pub invariant-loop-k : goal.invariant-loop-k
invariant-loop-k l =
    dated_from (body_of l.body) l.word l.k (map head_of (drop l.k l.heads))
    ≡ dated_from (body_of l.body) l.word 0 (map head_of l.heads)
