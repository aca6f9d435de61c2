use Rattle.std.proofs.Common.{◌≡◌, ◌*◌, false, take}
use Rattle.std.specs.List.{list_any}
use Rattle.plan_gantt.specs.Overlaps.{overlaps}
use Rattle.plan_gantt.proofs.interval.is_marked.Given as goal

-- none of the intervals so far contains an instant of the cell
abbrev pub invariant-loop-interval : goal.invariant-loop-interval
invariant-loop-interval l = list_any (λ v. overlaps v (l.cell * l.unit) l.unit) (take l.interval-index l.intervals) ≡ false
