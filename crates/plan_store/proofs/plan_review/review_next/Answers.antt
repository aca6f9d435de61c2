use Rattle.std.proofs.Common.{inl, inr}
use Rattle.sqlite.specs.Held.{state}
use Rattle.sqlite.specs.Given.{row_if}
use Rattle.plan_store.proofs.TransactionLemmas.{mapped_ok, mapped_err, was_ok}
use Rattle.plan_store.proofs.QueryEffectLemmas.{was_if_err}
use Rattle.plan_store.proofs.PlanReviewLemmas.{unchanged_stays, stays_leaves, undone_leaves, goes_next, good_reviewed, if_all_ok}
use Rattle.plan_store.proofs.plan_review.review_next.Goals as goal

pub returns-clause-reviewed : goal.returns-clause-reviewed
returns-clause-reviewed g c = λ is.
    good_reviewed (row_if c.advance.new.self.has_row c.advance.new.self.conn.now) c.requires.0 c.review_at.new.review c.review_at.result (c.review_at.ensures.told c.requires.0 c.requires.1) is

pub returns-clause-leaves : goal.returns-clause-leaves
returns-clause-leaves g c clean =
    let old = state g.S.Store c.args.rows.now.conn.now in
    let new = state g.S.Store c.advance.new.self.conn.now in
    let was = mapped_ok c.advance.result c.map_err.result _ _ c.map_err.ensures.cases c.in_ok-map_err.was in
    stays_leaves old new (unchanged_stays old new (was_ok c.advance.result _ was (c.advance.ensures.same clean)))

pub returns-clause-told : goal.returns-clause-told
returns-clause-told g c clean =
    let row = row_if c.advance.new.self.has_row c.advance.new.self.conn.now in
    let was = mapped_ok c.advance.result c.map_err.result _ _ c.map_err.ensures.cases c.in_ok-map_err.was in
    if_all_ok c.review_at.result row c.args.review.now c.review_at.new.review c.review_at.ensures.told
    (λ next comes. (
      was_ok c.advance.result _ was (c.advance.ensures.same clean),
      goes_next g.S.Store c.args.rows.now.conn.now
          c.advance.new.self.conn.now c.args.review.now c.review_at.new.review row
          (was_ok c.advance.result _ was (c.advance.ensures.ok clean)) next comes,
    ))

pub returns-in_err-map_err-clause-leaves : goal.returns-in_err-map_err-clause-leaves
returns-in_err-map_err-clause-leaves g c clean =
    let old = state g.S.Store c.args.rows.now.conn.now in
    let new = state g.S.Store c.advance.new.self.conn.now in
    let was = mapped_err c.advance.result c.map_err.result _ _ c.map_err.ensures.cases c.in_err-map_err.was in
    elim (was_if_err _ c.advance.result was.0 was.1 (c.advance.ensures.kept clean)) [ inl failed ↦ undone_leaves old new failed.3 | inr same ↦ stays_leaves old new (unchanged_stays old new same) ]
