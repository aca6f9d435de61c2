use Rattle.std.proofs.Common.{◌≡◌, map, take}
use Rattle.plan_rows.specs.Tables.{plan_kept}
use Rattle.plan_rows.specs.PlanReview.{HasReviewed}
use Rattle.plan_rows.proofs.row_tests.whole.review_all.Given as goal

-- the plans so far were tested
abbrev pub invariant-loop-plan : goal.invariant-loop-plan
invariant-loop-plan l = HasReviewed (map plan_kept (take l.plan-index l.plans)) l.review × (l.review.beside ≡ l.fn.review.beside)
