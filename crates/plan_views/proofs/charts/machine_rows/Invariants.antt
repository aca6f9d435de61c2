use Rattle.std.proofs.Common.{◌≡◌, map}
use Rattle.std.specs.List.{range_with_len}
use Rattle.plan_views.specs.Bars.{row_of}
use Rattle.plan_views.specs.Charts.{machine_row}
use Rattle.plan_views.proofs.charts.machine_rows.Given as goal

-- the rows of the machines so far
abbrev pub invariant-loop-machine : goal.invariant-loop-machine
invariant-loop-machine l = map row_of l.rows.items ≡ map (machine_row l.shop l.starts) (range_with_len 0 l.machine)
