use Rattle.std.proofs.Common.{◌≡◌, ◌&&◌, not, take}
use Rattle.plan_rows.specs.RowTests.{HeldKey}
use Rattle.plan_rows.specs.PlanReview.{holds_key, is_arc_key}
use Rattle.plan_rows.proofs.row_tests.review.strike_arcs.Given as goal

-- the keys of the arcs so far are removed
abbrev pub invariant-loop-arc : goal.invariant-loop-arc
invariant-loop-arc l = (q : HeldKey) → holds_key l.pending.keys q ≡ (holds_key l.fn.pending.keys q && not (is_arc_key l.desk l.n (take l.arc-index l.arcs) q))
