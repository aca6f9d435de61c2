use Rattle.std.proofs.Common.{Ok, ap, subst₂, sym, ◌≡◌, ◌∙◌, IsTrue}
use Rattle.sqlite.specs.Effect.{Database}
use Rattle.sqlite.specs.Held.{state}
use Rattle.plan_store.specs.QueryEffect.{IsQueryUnder}
use Rattle.plan_store.specs.PlanReview.{ReviewsRows}
use Rattle.plan_store.proofs.QueryEffectLemmas.{if_ok, queries_then}
use Rattle.plan_store.proofs.TableTestLemmas.{looks_from, rest_in}
use Rattle.plan_store.proofs.TableMeanings.{plans_text, plans_asks}
use Rattle.plan_store.proofs.PlanReviewLemmas.{plans_told}
use Rattle.plan_store.proofs.plan_review.review_plans.Goals as goal

pub prepare-requires : goal.prepare-requires
prepare-requires g c = record { rest = rest_in c.args.layout _ c.requires.ready }

pub review_rows-requires-clause-query : goal.review_rows-requires-clause-query
review_rows-requires-clause-query g c clean =
    let first = c.in_ok-statement.ensures in
    let did = first.answer clean in
    let same = first.same clean did.0 in
    let laid = c.requires.ready.laid (first.honesty clean) same.0 in
    subst₂ IsQueryUnder (sym (ap (λ (d : Database). d.schema) same.1 ∙ laid.schema)) (sym did.1) (plans_asks c.args.layout)

pub returns-clause-looks : goal.returns-clause-looks
returns-clause-looks g c =
    let old = state g.S.Store c.args.conn.now in
    let mid = state g.S.Store c.prepare.new.conn in
    let new = state g.S.Store c.review_rows.new.conn in
    let review = c.review_rows.new.review in
    let text = c.in_ok-statement.statement.text in
    let first = c.in_ok-statement.ensures in
    let second = c.review_rows.ensures.queries in
    looks_from c.args.layout old new c.requires.ready c.review_rows.result
    (λ good. (text ≡ plans_text) × IsTrue new.is_open × (new.now ≡ old.now) × (mid.now ≡ new.now) × ReviewsRows text mid.now new review good) _
    (λ good laid h. plans_told c.args.layout old laid new text h.0 h.1 h.2 mid.now h.3 review good h.4)
    (queries_then old mid new (Ok c.in_ok-statement.statement) _ c.review_rows.result _ c.review_rows.result _ first second
    (if_ok c.review_rows.result (λ good h clean.
    let early = second.honesty clean in
    let late = second.same clean (h clean).0 in
    let same = first.same early late.0 in
    ((h clean).0, ((first.answer early).1, (h clean).0, late.1 ∙ same.1, sym late.1, (h clean).1))) second.answer))
