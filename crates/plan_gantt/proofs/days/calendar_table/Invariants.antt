use Rattle.std.specs.String.{string_bytes}
use Rattle.plan_gantt.specs.Column.{number_column}
use Rattle.plan_gantt.specs.Charts.{activity_interval}
use Rattle.plan_gantt.specs.CalendarTable.{IsDaysTable, activity_days_heading}
use Rattle.plan_gantt.proofs.days.calendar_table.Given as goal

-- the text is the table of the activities so far
abbrev pub invariant-loop-k : goal.invariant-loop-k
invariant-loop-k l = IsDaysTable l.calendar activity_days_heading (λ j. number_column 4 j) (activity_interval l.network l.starts) l.k (string_bytes l.text)
