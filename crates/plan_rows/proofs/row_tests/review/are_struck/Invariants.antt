use Rattle.std.proofs.Common.{◌<◌, ℕ, get_or}
use Rattle.plan_rows.specs.declared.tables.records.LagRecord.{LagRecord}
use Rattle.plan_rows.specs.PlanReview.{IsStruck, lag_key_of}
use Rattle.plan_rows.proofs.row_tests.review.are_struck.Given as goal

-- the keys of the rows so far are removed
abbrev pub invariant-loop-row : goal.invariant-loop-row
invariant-loop-row l = (k : ℕ) (d : LagRecord) → k < l.row-index → IsStruck l.pending.keys (lag_key_of (get_or l.rows k d))
