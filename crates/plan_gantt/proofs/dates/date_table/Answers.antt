use Rattle.plan_gantt.specs.DateTable.{date_heading, date_line}
use Rattle.plan_gantt.proofs.ColumnLemmas.{next_line}
use Rattle.plan_gantt.proofs.dates.date_table.Goals as goal

pub loop-k-preserved : goal.loop-k-preserved
loop-k-preserved c = next_line date_heading (date_line c.args.network.now c.args.dates.now) c.loop-k.k _ _ c.loop-k.invariant c.in_ok-push_line.ensures
