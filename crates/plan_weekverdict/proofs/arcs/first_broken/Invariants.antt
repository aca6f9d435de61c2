use Rattle.std.proofs.Common.{take}
use Rattle.plan_weekverdict.specs.Verdicts.{IsFoundAmong}
use Rattle.plan_weekverdict.proofs.arcs.first_broken.Given as goal

-- the first broken one of the arcs so far
abbrev pub invariant-loop-arc : goal.invariant-loop-arc
invariant-loop-arc l = IsFoundAmong l.week l.starts (take l.arc-index l.week.arcs.items) l.found
