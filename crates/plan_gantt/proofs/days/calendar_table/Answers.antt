use Rattle.std.specs.String.{string_bytes}
use Rattle.plan_gantt.specs.Column.{number_column}
use Rattle.plan_gantt.specs.Charts.{activity_interval}
use Rattle.plan_gantt.specs.CalendarTable.{activity_days_heading}
use Rattle.plan_gantt.proofs.DayTextLemmas.{next_days_line}
use Rattle.plan_gantt.proofs.days.calendar_table.Goals as goal

pub loop-k-preserved : goal.loop-k-preserved
loop-k-preserved c =
    next_days_line c.args.calendar.now activity_days_heading (λ j. number_column 4 j)
    (activity_interval c.args.network.now c.args.starts.now) c.loop-k.k (string_bytes c.loop-k.text)
    (string_bytes c.push_line.new.text) c.loop-k.invariant c.in_ok-push_line.ensures.line
