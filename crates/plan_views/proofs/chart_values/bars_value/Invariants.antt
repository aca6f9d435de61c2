use Rattle.std.proofs.Common.{◌≡◌, map, take}
use Rattle.serde_json.specs.View.{view}
use Rattle.plan_views.specs.Bars.{bar_of}
use Rattle.plan_views.specs.ChartData.{bar_data}
use Rattle.plan_views.proofs.chart_values.bars_value.Given as goal

-- the bars so far
abbrev pub invariant-loop-bar : goal.invariant-loop-bar
invariant-loop-bar l = map view l.list.items ≡ map bar_data (map bar_of (take l.bar-index l.bars))
