use Rattle.std.proofs.Common.{◌≡◌, ◌+◌, ◌≤◌, All}
use Rattle.plan_gantt.specs.Limits.{latest_end}
use Rattle.plan_gantt.proofs.ShopChartLemmas.{first_intervals}
use Rattle.plan_gantt.proofs.shop_charts.machine_intervals.Given as goal

-- the intervals of the steps so far that are on the machine, each within the limit
abbrev pub invariant-loop-x : goal.invariant-loop-x
invariant-loop-x l = record {
  intervals : l.intervals.items ≡ first_intervals l.shop l.starts l.machine l.x;
  ends : All (λ v. v.start + v.duration ≤ latest_end) l.intervals.items;
}
