use Rattle.std.proofs.Common.{◌≡◌, map}
use Rattle.plan_formats.specs.Tables.{rows_of}
use Rattle.plan_views.specs.Moments.{moment_row, pair_of}
use Rattle.plan_views.specs.Plans.{plan_of}
use Rattle.plan_views.specs.Rows.{rows_from}
use Rattle.plan_views.proofs.moments.moment_rows.Given as goal

-- the rows so far
abbrev pub invariant-loop-k : goal.invariant-loop-k
invariant-loop-k l = rows_of l.rows.items ≡ rows_from (moment_row (plan_of l.plan) (map pair_of l.moments)) 0 l.k
