use Rattle.std.proofs.Common.{◌≡◌, map}
use Rattle.std.specs.List.{range_with_len}
use Rattle.plan_views.specs.Bars.{row_of}
use Rattle.plan_views.specs.Charts.{activity_row}
use Rattle.plan_views.proofs.charts.activity_rows.Given as goal

-- the rows of the activities so far
abbrev pub invariant-loop-k : goal.invariant-loop-k
invariant-loop-k l = map row_of l.rows.items ≡ map (activity_row l.instance l.starts) (range_with_len 0 l.k)
