use Rattle.std.proofs.Common.{◌≡◌, take}
use Rattle.std.specs.List.{filter}
use Rattle.plan_week.specs.Inputs.{leads_on}
use Rattle.plan_week.proofs.input.arcs_of.Given as goal

-- the arcs so far
abbrev pub invariant-loop-arc : goal.invariant-loop-arc
invariant-loop-arc l = l.arcs.items ≡ filter (leads_on l.week) (take l.arc-index l.week.arcs.items)
