use Rattle.std.proofs.Common.{◌≡◌, ◌+◌, ◌≤◌, All, map, take}
use Rattle.plan_gantt.specs.Limits.{latest_end}
use Rattle.plan_views.specs.Bars.{bar_of, intervals_of}
use Rattle.plan_views.proofs.chart_texts.intervals.Given as goal

-- the intervals of the bars so far, each within the limit
abbrev pub invariant-loop-bar : goal.invariant-loop-bar
invariant-loop-bar l = record {
  intervals : l.made.items ≡ intervals_of (map bar_of (take l.bar-index l.bars));
  ends : All (λ v. v.start + v.duration ≤ latest_end) l.made.items;
}
