use Rattle.std.proofs.Common.{◌≡◌, ◌++◌, drop, map}
use Rattle.plan_table.specs.Table.{activity_of}
use Rattle.plan_weekcompare.specs.Shown.{rows_of, shown_from}
use Rattle.plan_weekcompare.proofs.shown.schedule_of.Given as goal

-- those of the activities that are left, behind those so far, are all of them
abbrev pub invariant-loop-k : goal.invariant-loop-k
invariant-loop-k l =
    rows_of l.schedule ++ shown_from l.week l.starts l.k (map activity_of (drop l.k l.activities))
    ≡ shown_from l.week l.starts 0 (map activity_of l.activities)
