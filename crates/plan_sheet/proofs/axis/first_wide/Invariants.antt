use Rattle.std.proofs.Common.{◌≡◌, drop}
use Rattle.plan_sheet.specs.Axis.{first_wide}
use Rattle.plan_sheet.proofs.axis.first_wide.Given as goal

-- the first one is among those that are left
abbrev pub invariant-loop-distance : goal.invariant-loop-distance
invariant-loop-distance l = first_wide l.span (drop l.distance-index l.distances) ≡ first_wide l.span l.distances
