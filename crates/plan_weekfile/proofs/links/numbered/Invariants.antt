use Rattle.std.proofs.Common.{◌≡◌, map, take}
use Rattle.plan_weekfile.specs.Links.{numbered}
use Rattle.plan_weekfile.proofs.links.numbered.Given as goal

-- the arcs so far
abbrev pub invariant-loop-arc : goal.invariant-loop-arc
invariant-loop-arc l = l.list.items ≡ map numbered (take l.arc-index l.arcs)
