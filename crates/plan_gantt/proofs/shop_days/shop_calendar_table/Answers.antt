use Rattle.std.proofs.Common.{◌≡◌, ℕ, ◌+◌, ◌-◌, subst, arith}
use Rattle.std.specs.String.{string_bytes}
use Rattle.plan_shop.specs.Shop.{count_steps}
use Rattle.plan_gantt.specs.CalendarTable.{IsDaysLine, IsDaysTable}
use Rattle.plan_gantt.specs.ShopCharts.{step_days_heading, step_front, step_interval}
use Rattle.plan_gantt.proofs.DayTextLemmas.{Appended, next_days_line}
use Rattle.plan_gantt.proofs.shop_days.shop_calendar_table.Goals as goal

pub loop-x-preserved : goal.loop-x-preserved
loop-x-preserved c =
    let shop = c.args.shop.now in
    let starts = c.args.starts.now in
    let old = string_bytes c.loop-x.text in
    let new = string_bytes c.push_line.new.text in
    let place : c.loop-x.x ≡ c.loop-x.x + 1 - 1 = omega arith in
    next_days_line c.args.calendar.now step_days_heading (λ n. step_front shop (n - 1)) (λ n. step_interval shop starts (n - 1)) c.loop-x.x old new c.loop-x.invariant
    (subst (λ (x : ℕ). Appended (IsDaysLine c.args.calendar.now (step_front shop x) (step_interval shop starts x)) old new) place c.in_ok-push_line.ensures.line)

pub returns-clause-text : goal.returns-clause-text
returns-clause-text c =
    let shop = c.args.shop.now in
    let whole : c.loop-x.x ≡ count_steps shop = omega arith in
    subst (λ (n : ℕ). IsDaysTable c.args.calendar.now step_days_heading (λ n. step_front shop (n - 1))
    (λ n. step_interval shop c.args.starts.now (n - 1)) n (string_bytes c.loop-x.text)) whole
    c.loop-x.invariant
