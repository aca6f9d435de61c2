use Rattle.std.proofs.Common.{◌≡◌, [], length, map, drop}
use Rattle.plan_table.specs.Table.{activity_of}
use Rattle.plan_weeklist.specs.ListedWeeks.{dues_at, placed}
use Rattle.plan_weeklist.specs.Rows.{dated_of}
use Rattle.plan_weeklist.proofs.week.dues_of.Given as goal

-- those of the activities that are left, behind the due dates so far, are all of them
abbrev pub invariant-loop-k : goal.invariant-loop-k
invariant-loop-k l =
    (placed (dues_at l.list.own_ids (map dated_of l.list.rows.now)) l.dues.items l.k (map activity_of (drop l.k l.activities))
    ≡ placed (dues_at l.list.own_ids (map dated_of l.list.rows.now)) [] 0 (map activity_of l.activities))
