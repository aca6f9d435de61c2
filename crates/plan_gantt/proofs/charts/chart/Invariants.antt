use Rattle.std.proofs.Common.{◌≡◌, ◌++◌}
use Rattle.std.specs.String.{string_bytes}
use Rattle.plan_gantt.specs.Column.{lines_from}
use Rattle.plan_gantt.specs.Chart.{unit_line, chart_line}
use Rattle.plan_gantt.specs.Charts.{activity_intervals}
use Rattle.plan_gantt.proofs.charts.chart.Given as goal

-- the lines of the activities so far follow the unit
abbrev pub invariant-loop-k : goal.invariant-loop-k
invariant-loop-k l = string_bytes l.text ≡ unit_line l.makespan ++ lines_from (λ j. chart_line l.makespan j (activity_intervals l.network l.starts j)) 1 l.k
