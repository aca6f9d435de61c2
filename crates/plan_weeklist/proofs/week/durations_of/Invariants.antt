use Rattle.std.proofs.Common.{◌≡◌, [], length, map, drop}
use Rattle.plan_table.specs.Table.{activity_of}
use Rattle.plan_weeklist.specs.ListedWeeks.{durations_at, placed}
use Rattle.plan_weeklist.specs.Rows.{dated_of}
use Rattle.plan_weeklist.proofs.week.durations_of.Given as goal

-- those of the activities that are left, behind the durations so far, are all of them
abbrev pub invariant-loop-k : goal.invariant-loop-k
invariant-loop-k l =
    (placed (durations_at l.list.own_ids (map dated_of l.list.rows.now)) l.durations.items l.k (map activity_of (drop l.k l.activities))
    ≡ placed (durations_at l.list.own_ids (map dated_of l.list.rows.now)) [] 0 (map activity_of l.activities)) × (length l.durations.items ≡ l.k)
