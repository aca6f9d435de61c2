use Rattle.std.proofs.Common.{◌≡◌, [], map, drop}
use Rattle.plan_table.specs.Table.{activity_of}
use Rattle.plan_weeklist.specs.ListedWeeks.{arcs_to, placed}
use Rattle.plan_weeklist.proofs.arcs.arcs_of.Given as goal

-- those to the activities that are left, behind the arcs so far, are all of them
abbrev pub invariant-loop-k : goal.invariant-loop-k
invariant-loop-k l =
    placed (arcs_to l.count (map activity_of l.all)) l.arcs.items l.k (map activity_of (drop l.k l.activities))
    ≡ placed (arcs_to l.count (map activity_of l.all)) [] 0 (map activity_of l.activities)
