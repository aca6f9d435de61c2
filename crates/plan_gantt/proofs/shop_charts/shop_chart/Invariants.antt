use Rattle.std.proofs.Common.{◌≡◌, ◌++◌}
use Rattle.std.specs.String.{string_bytes}
use Rattle.plan_gantt.specs.Column.{lines_from}
use Rattle.plan_gantt.specs.Chart.{unit_line, chart_line}
use Rattle.plan_gantt.specs.ShopCharts.{machine_intervals}
use Rattle.plan_gantt.proofs.shop_charts.shop_chart.Given as goal

-- the lines of the machines so far follow the unit
abbrev pub invariant-loop-machine : goal.invariant-loop-machine
invariant-loop-machine l = string_bytes l.text ≡ unit_line l.makespan ++ lines_from (λ m. chart_line l.makespan m (machine_intervals l.shop l.starts m)) 0 l.machine
