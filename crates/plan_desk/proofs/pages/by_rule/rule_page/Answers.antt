use Rattle.plan_desk.proofs.pages.by_rule.rule_page.Goals as goal

pub returns-in-Schedule : goal.returns-in-Schedule
returns-in-Schedule c = rw c.in-Schedule.is c.schedule_page.ensures

pub returns-in-Chart : goal.returns-in-Chart
returns-in-Chart c = rw c.in-Chart.is c.chart_page.ensures

pub returns-in-Days : goal.returns-in-Days
returns-in-Days c = rw c.in-Days.is c.days_page.ensures
