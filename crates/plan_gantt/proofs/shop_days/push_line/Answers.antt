use Rattle.std.proofs.Common.{subst}
use Rattle.std.specs.String.{string_bytes}
use Rattle.std.proofs.lemmas.Result.{on_ok_weaker}
use Rattle.plan_gantt.specs.ShopCharts.{step_front}
use Rattle.plan_gantt.specs.CalendarTable.{HasDayBeyond}
use Rattle.plan_gantt.proofs.DayTextLemmas.{fronted_line}
use Rattle.plan_gantt.proofs.shop_days.push_line.Goals as goal

pub returns-clause-line : goal.returns-clause-line
returns-clause-line c =
    on_ok_weaker c.push_days_line.result (fronted_line c.args.calendar.now
    (step_front c.args.shop.now c.args.x) _ _ (string_bytes c.args.text.now)
    (string_bytes c.push_front.new.text) (string_bytes c.push_days_line.new.text)
    c.in_ok-push_front.ensures c.step_interval.ensures.interval) c.push_days_line.ensures.line

pub returns-clause-beyond : goal.returns-clause-beyond
returns-clause-beyond c is =
    subst (λ interval. HasDayBeyond c.args.calendar.now interval) c.step_interval.ensures.interval (c.push_days_line.ensures.beyond is)
