use Rattle.std.proofs.Common.{◌≡◌, map, drop}
use Rattle.std.specs.Cmp.Lexicographic.{pointwise}
use Rattle.plan_table.specs.Table.{resource_of}
use Rattle.plan_weekback.specs.Comparisons.{same_resource}
use Rattle.plan_weekback.proofs.sameness.same_resources.Given as goal

-- all are the same if those that are left are
abbrev pub invariant-loop-one : goal.invariant-loop-one
invariant-loop-one l =
    pointwise same_resource (map resource_of (drop l.one-index l.a)) (map resource_of l.rest) ≡ pointwise same_resource (map resource_of l.a) (map resource_of l.b)
