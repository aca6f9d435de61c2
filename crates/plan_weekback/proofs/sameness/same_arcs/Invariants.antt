use Rattle.std.proofs.Common.{◌≡◌, drop}
use Rattle.std.specs.Cmp.Lexicographic.{pointwise}
use Rattle.plan_weekback.specs.Comparisons.{same_arc}
use Rattle.plan_weekback.proofs.sameness.same_arcs.Given as goal

-- all are the same if those that are left are
abbrev pub invariant-loop-one : goal.invariant-loop-one
invariant-loop-one l = pointwise same_arc (drop l.one-index l.a) l.rest ≡ pointwise same_arc l.a l.b
