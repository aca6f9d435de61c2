use Rattle.std.proofs.Common.{◌≡◌, false, List}
use Rattle.sqlite.specs.State.{HasCleanDisk, Survives}
use Rattle.sqlite.specs.Held.{state}
use Rattle.plan_rows.specs.World.{Plan}
use Rattle.plan_store.specs.PlanReview.{HasSeen, Stays}
use Rattle.plan_store.proofs.PlanReviewLemmas.{HasGone}
use Rattle.plan_store.proofs.plan_review.review_rest.Given as goal

-- the rows so far are those of plans that were tested
abbrev pub invariant-loop : goal.invariant-loop
invariant-loop g l = record {
  same_reference : l.rows.conn.ghost_name ≡ l.fn.rows.conn.ghost_name;
  mode : l.fn.rows.conn.now.in_transaction ≡ false → l.rows.conn.now.in_transaction ≡ false;
  survives : Survives (state g.S.Store l.fn.rows.conn.now) (state g.S.Store l.rows.conn.now) (λ _. ⊥);
  same : l.review.review.beside ≡ l.fn.review.review.beside;
  reviewed : (plans : List Plan) × HasSeen plans l.review;
  gone : HasCleanDisk (state g.S.Store l.rows.conn.now)
      → Stays (state g.S.Store l.fn.rows.conn.now) (state g.S.Store l.rows.conn.now) × HasGone g.S.Store l.fn.rows.conn.now l.rows.conn.now l.review;
}
