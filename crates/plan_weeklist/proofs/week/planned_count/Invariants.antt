use Rattle.std.proofs.Common.{◌≡◌, map, drop}
use Rattle.plan_table.specs.Table.{activity_of}
use Rattle.plan_weeklist.specs.ListedWeeks.{planned_from}
use Rattle.plan_weeklist.specs.Rows.{dated_of}
use Rattle.plan_weeklist.proofs.week.planned_count.Given as goal

-- the first wait is among the activities that are left
abbrev pub invariant-loop-k : goal.invariant-loop-k
invariant-loop-k l =
    planned_from l.list.own_ids (map dated_of l.list.rows.now) l.k (map activity_of (drop l.k l.activities))
    ≡ planned_from l.list.own_ids (map dated_of l.list.rows.now) 0 (map activity_of l.activities)
