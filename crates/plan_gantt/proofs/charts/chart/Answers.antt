use Rattle.plan_gantt.specs.Chart.{unit_line, chart_line}
use Rattle.plan_gantt.specs.Charts.{activity_intervals}
use Rattle.plan_gantt.proofs.ColumnLemmas.{next_line}
use Rattle.plan_gantt.proofs.charts.chart.Goals as goal

pub loop-k-preserved : goal.loop-k-preserved
loop-k-preserved c = next_line (unit_line c.args.makespan)
    (λ j. chart_line c.args.makespan j (activity_intervals c.args.network.now c.args.starts.now j)) c.loop-k.k
    _ _ c.loop-k.invariant c.in_ok-push_activity.ensures
