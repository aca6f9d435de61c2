use Rattle.plan_formats.specs.Tables.{rows_of}
use Rattle.plan_views.specs.DayTables.{AreDaysRows}
use Rattle.plan_views.specs.Plans.{front_of, interval_of, plan_of}
use Rattle.plan_views.proofs.days.rows.Given as goal

-- the rows so far
abbrev pub invariant-loop-k : goal.invariant-loop-k
invariant-loop-k l = AreDaysRows l.calendar (front_of (plan_of l.plan)) (interval_of (plan_of l.plan) l.starts) l.k (rows_of l.rows.items)
