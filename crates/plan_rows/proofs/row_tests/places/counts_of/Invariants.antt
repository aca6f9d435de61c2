use Rattle.std.proofs.Common.{drop}
use Rattle.plan_rows.specs.RowTests.{AreCounts}
use Rattle.plan_rows.proofs.row_tests.places.counts_of.Given as goal

-- the number of plans from i on of each desk
abbrev pub invariant-loop-i : goal.invariant-loop-i
invariant-loop-i l = AreCounts l.counts (drop l.i l.rows)
