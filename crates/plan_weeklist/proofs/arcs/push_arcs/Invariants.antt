use Rattle.std.proofs.Common.{◌≡◌, ◌++◌, map, take}
use Rattle.plan_table.specs.Table.{activity_of}
use Rattle.plan_weeklist.specs.ListedWeeks.{arc_from}
use Rattle.plan_weeklist.proofs.arcs.push_arcs.Given as goal

-- the arcs from the predecessors so far
abbrev pub invariant-loop-number : goal.invariant-loop-number
invariant-loop-number l =
    l.arcs.items ≡ l.fn.arcs.items
    ++ map (arc_from l.count (map activity_of l.all) l.k) (take l.number-index l.activity.predecessors.items)
