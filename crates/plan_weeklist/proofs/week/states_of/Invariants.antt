use Rattle.std.proofs.Common.{◌≡◌, [], length, map, drop}
use Rattle.plan_table.specs.Table.{activity_of}
use Rattle.plan_weeklist.specs.ListedWeeks.{states_at, placed}
use Rattle.plan_weeklist.specs.Rows.{dated_of}
use Rattle.plan_weeklist.proofs.week.states_of.Given as goal

-- those of the activities that are left, behind the states so far, are all of them
abbrev pub invariant-loop-k : goal.invariant-loop-k
invariant-loop-k l =
    (placed (states_at l.list.own_ids (map dated_of l.list.rows.now) l.today) l.states.items l.k (map activity_of (drop l.k l.activities))
    ≡ placed (states_at l.list.own_ids (map dated_of l.list.rows.now) l.today) [] 0 (map activity_of l.activities)) × (length l.states.items ≡ l.k)
