use Rattle.std.proofs.Common.{◌-◌}
use Rattle.std.specs.String.{string_bytes}
use Rattle.plan_gantt.specs.CalendarTable.{IsDaysTable}
use Rattle.plan_gantt.specs.ShopCharts.{step_days_heading, step_front, step_interval}
use Rattle.plan_gantt.proofs.shop_days.shop_calendar_table.Given as goal

-- the text is the table of the steps so far
abbrev pub invariant-loop-x : goal.invariant-loop-x
invariant-loop-x l = IsDaysTable l.calendar step_days_heading (λ n. step_front l.shop (n - 1)) (λ n. step_interval l.shop l.starts (n - 1)) l.x (string_bytes l.text)
