use Rattle.std.proofs.Common.{◌≡◌, drop}
use Rattle.plan_report.specs.Waits.{first_source}
use Rattle.plan_report.proofs.waits.first_source.Given as goal

-- the first arc to the activity is among those that are left
abbrev pub invariant-loop-arc : goal.invariant-loop-arc
invariant-loop-arc l = first_source (drop l.arc-index l.arcs) l.j ≡ first_source l.arcs l.j
