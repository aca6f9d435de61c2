use Rattle.std.proofs.Common.{◌≡◌, ◌++◌, take, flat_map}
use Rattle.std.specs.String.{string_bytes}
use Rattle.plan_sheet.specs.Chart.{chart_of, bar_in}
use Rattle.plan_sheet.proofs.chart.push_bars.Given as goal

-- the bars so far are written
abbrev pub invariant-loop-bar : goal.invariant-loop-bar
invariant-loop-bar l =
    string_bytes l.text ≡ string_bytes l.fn.text ++ flat_map (bar_in (chart_of l.chart) l.n) (take l.bar-index l.bars)
