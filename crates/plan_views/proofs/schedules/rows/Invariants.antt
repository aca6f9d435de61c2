use Rattle.std.proofs.Common.{◌≡◌}
use Rattle.plan_formats.specs.Tables.{rows_of}
use Rattle.plan_views.specs.Plans.{plan_of}
use Rattle.plan_views.specs.Rows.{rows_from}
use Rattle.plan_views.specs.ScheduleTables.{schedule_row}
use Rattle.plan_views.proofs.schedules.rows.Given as goal

-- the rows so far
abbrev pub invariant-loop-k : goal.invariant-loop-k
invariant-loop-k l = rows_of l.rows.items ≡ rows_from (schedule_row (plan_of l.plan) l.starts) 0 l.k
