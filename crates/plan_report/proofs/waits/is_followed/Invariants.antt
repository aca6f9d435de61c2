use Rattle.std.proofs.Common.{◌≡◌, drop}
use Rattle.plan_report.specs.Waits.{is_followed}
use Rattle.plan_report.proofs.waits.is_followed.Given as goal

-- such an arc is among those that are left
abbrev pub invariant-loop-arc : goal.invariant-loop-arc
invariant-loop-arc l =
    is_followed l.behind (drop l.arc-index l.arcs) l.j ≡ is_followed l.behind l.arcs l.j
