use Rattle.std.proofs.Common.{◌≡◌, map}
use Rattle.std.specs.List.{range_with_len}
use Rattle.plan_formats.specs.Tables.{rows_of}
use Rattle.plan_weeks.specs.WeekTables.{week_row}
use Rattle.plan_weeks.proofs.view.rows.Given as goal

-- the rows so far
abbrev pub invariant-loop-k : goal.invariant-loop-k
invariant-loop-k l =
    rows_of l.rows.items ≡ map (week_row l.week l.plan.starts.items l.plan.lateness) (range_with_len 0 l.k)
