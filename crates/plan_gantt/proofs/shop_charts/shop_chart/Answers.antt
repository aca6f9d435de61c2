use Rattle.std.proofs.Common.{ap, ◌∙◌}
use Rattle.plan_gantt.specs.Chart.{unit_line, chart_line}
use Rattle.plan_gantt.specs.ShopCharts.{machine_intervals}
use Rattle.plan_gantt.proofs.CellLemmas.{next_cell}
use Rattle.plan_gantt.proofs.shop_charts.shop_chart.Goals as goal

pub loop-machine-preserved : goal.loop-machine-preserved
loop-machine-preserved c =
    next_cell (unit_line c.args.makespan) (λ m. chart_line c.args.makespan m
    (machine_intervals c.args.shop.now c.args.starts.now m)) c.loop-machine.machine _ _ _
    c.loop-machine.invariant (ap (λ vs. chart_line c.args.makespan c.loop-machine.machine vs)
    (c.deref.ensures.value ∙ c.in_ok-intervals.ensures.intervals)) c.in_ok-push_line.ensures
