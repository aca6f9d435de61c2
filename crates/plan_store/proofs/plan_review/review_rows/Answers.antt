use Rattle.std.proofs.Common.{◌≡◌, ◌∙◌, [], rules, sym, subst}
use Rattle.sqlite.specs.Given.{IsRefused}
use Rattle.sqlite.specs.Held.{state}
use Rattle.plan_store.specs.QueryEffect.{Queries}
use Rattle.plan_store.specs.PlanReview.{ReviewsRows}
use Rattle.plan_store.proofs.PlanReviewLemmas.{rows_queried, rows_refused}
use Rattle.plan_store.proofs.plan_review.review_rows.Goals as goal

pub returns-in-Err-clause-queries : goal.returns-in-Err-clause-queries
returns-in-Err-clause-queries g c =
    let old = c.args.conn.now in
    let new = c.query_prepared.follows.lender-at-none in
    let text = c.args.statement.now.text in
    let held = c.query_prepared.follows.holds-at-none in
    let refused : IsRefused g.S.Store text [] old c.query_prepared.result new = search rules in
    let it = subst (λ r. IsRefused g.S.Store text [] old r new) c.in-Err.is refused in
    rows_refused g.S.Store old new new c.requires.rest text c.requires.query c.in-Err.error it.err it.mode it.survives c.fault_of.result _

pub returns-clause-queries : goal.returns-clause-queries
returns-clause-queries g c =
    let old = c.args.conn.now in
    let last = c.review_rest.new.rows.conn.now in
    let review = c.review_rest.new.review in
    let text = c.args.statement.now.text in
    let end = c.drop-rows.new.self.0 in
    let same : end ≡ c.conn-2-1.given.0 = search rules in
    let it = rows_queried g.S.Store old c.in-Ok.rows.conn.now last c.requires.rest text c.requires.query c.in-Ok.ensures.begun c.in-Ok.ensures.mode c.in-Ok.ensures.survives
    c.review_rest.ensures.mode c.review_rest.ensures.survives c.review_rest.ensures.leaves review c.review_rest.result c.review_rest.ensures.told in
    subst (λ h. Queries (state g.S.Store old) (state g.S.Store h) c.review_rest.result (ReviewsRows text (state g.S.Store old).now (state g.S.Store h) review)) (sym c.drop-rows.ensures ∙ same) it
