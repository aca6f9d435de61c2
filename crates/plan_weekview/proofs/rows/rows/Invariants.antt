use Rattle.plan_formats.specs.Tables.{rows_of}
use Rattle.plan_weekview.specs.WeekDays.{AreDayRows}
use Rattle.plan_weekview.proofs.rows.rows.Given as goal

-- the rows so far
abbrev pub invariant-loop-k : goal.invariant-loop-k
invariant-loop-k l = AreDayRows l.calendar l.week l.plan l.k (rows_of l.rows.items)
