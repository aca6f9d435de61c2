use Rattle.std.proofs.Common.{◌≡◌, map, drop}
use Rattle.std.specs.Cmp.Lexicographic.{pointwise}
use Rattle.plan_table.specs.Table.{activity_of}
use Rattle.plan_weekback.specs.Comparisons.{same_activity}
use Rattle.plan_weekback.proofs.sameness.same_activities.Given as goal

-- all are the same if those that are left are
abbrev pub invariant-loop-one : goal.invariant-loop-one
invariant-loop-one l =
    pointwise same_activity (map activity_of (drop l.one-index l.a)) (map activity_of l.rest) ≡ pointwise same_activity (map activity_of l.a) (map activity_of l.b)
