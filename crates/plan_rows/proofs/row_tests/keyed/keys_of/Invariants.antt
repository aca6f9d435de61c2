use Rattle.std.proofs.Common.{drop}
use Rattle.plan_rows.specs.PlanReview.{AreKeys}
use Rattle.plan_rows.proofs.row_tests.keyed.keys_of.Given as goal

-- the keys are those of the rows from that on
abbrev pub invariant-loop-at : goal.invariant-loop-at
invariant-loop-at g l = AreKeys g.T.Keyed.key_of l.keys.keys (drop l.at l.rows)
