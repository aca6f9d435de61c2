use Rattle.std.proofs.Common.{◌∙◌, [], refl, ap, subst, arith, Ok}
use Rattle.sqlite.specs.State.{HasCleanDisk}
use Rattle.sqlite.specs.Held.{state}
use Rattle.plan_store.specs.PlanReview.{Reviews}
use Rattle.plan_store.proofs.TransactionLemmas.{survives_itself, survives_on}
use Rattle.plan_store.proofs.PlanReviewLemmas.{stays_itself, unchanged_stays, stays_then, stays_leaves, leaves_then, gone_none, gone_more, gone_bad, gone_all}
use Rattle.plan_store.proofs.plan_review.review_rest.Goals as goal

pub loop-init : goal.loop-init
loop-init g c = record {
  same_reference = refl;
  mode = λ outside. outside;
  survives = survives_itself (state g.S.Store c.args.rows.now.conn.now) (λ _. ⊥);
  same = refl;
  reviewed = ([], c.requires.fresh);
  gone = λ clean. (stays_itself (state g.S.Store c.args.rows.now.conn.now), gone_none g.S.Store c.args.rows.now.conn.now c.args.review.now c.requires.fresh);
}

pub loop-preserved : goal.loop-preserved
loop-preserved g c =
    let first = state g.S.Store c.args.rows.now.conn.now in
    let old = state g.S.Store c.loop.rows.conn.now in
    let new = state g.S.Store c.review_next.new.rows.conn.now in
    let inv = c.loop.invariant in
    let did = c.in_ok-review_next.ensures in
    let was = λ (clean : HasCleanDisk new). let early : HasCleanDisk old = omega (arith, did.survives.clean) in early in
    record {
      same_reference = did.same_reference ∙ inv.same_reference;
      mode = λ outside. did.mode (inv.mode outside);
      survives = survives_on first old new inv.survives did.survives;
      same = did.same ∙ inv.same;
      reviewed = did.reviewed (ap Ok c.in-Good.is);
      gone = λ clean.
          let before = inv.gone (was clean) in
          let told = did.told clean in (
            stays_then first old new before.0 (unchanged_stays old new told.0),
            gone_more g.S.Store c.args.rows.now.conn.now c.loop.rows.conn.now c.review_next.new.rows.conn.now c.loop.review c.review_next.new.review before.1
                (subst (Reviews g.S.Store c.loop.rows.conn.now c.review_next.new.rows.conn.now c.loop.review c.review_next.new.review) c.in-Good.is told.1),
          );
    }

pub returns-in_err-review_next-clause-leaves : goal.returns-in_err-review_next-clause-leaves
returns-in_err-review_next-clause-leaves g c clean =
    let first = state g.S.Store c.args.rows.now.conn.now in
    let old = state g.S.Store c.loop.rows.conn.now in
    let new = state g.S.Store c.review_next.new.rows.conn.now in
    let early : HasCleanDisk old = omega (arith, c.review_next.ensures.survives.clean) in
    leaves_then first old new (c.loop.invariant.gone early).0 (c.review_next.ensures.leaves clean)

pub returns-in-Bad-clause-leaves : goal.returns-in-Bad-clause-leaves
returns-in-Bad-clause-leaves g c clean =
    let first = state g.S.Store c.args.rows.now.conn.now in
    let old = state g.S.Store c.loop.rows.conn.now in
    let new = state g.S.Store c.review_next.new.rows.conn.now in
    let early : HasCleanDisk old = omega (arith, c.review_next.ensures.survives.clean) in
    leaves_then first old new (c.loop.invariant.gone early).0 (c.review_next.ensures.leaves clean)

pub returns-in-End-clause-leaves : goal.returns-in-End-clause-leaves
returns-in-End-clause-leaves g c clean =
    let first = state g.S.Store c.args.rows.now.conn.now in
    let old = state g.S.Store c.loop.rows.conn.now in
    let new = state g.S.Store c.review_next.new.rows.conn.now in
    let early : HasCleanDisk old = omega (arith, c.review_next.ensures.survives.clean) in
    leaves_then first old new (c.loop.invariant.gone early).0 (c.review_next.ensures.leaves clean)

pub returns-in-Bad-clause-told : goal.returns-in-Bad-clause-told
returns-in-Bad-clause-told g c clean =
    let old = state g.S.Store c.loop.rows.conn.now in
    let did = c.in_ok-review_next.ensures in
    let early : HasCleanDisk old = omega (arith, did.survives.clean) in
    let told = did.told clean in (
      told.0.0.is_open,
      gone_bad g.S.Store c.args.rows.now.conn.now c.loop.rows.conn.now c.review_next.new.rows.conn.now c.loop.review c.review_next.new.review (c.loop.invariant.gone early).1
          (subst (Reviews g.S.Store c.loop.rows.conn.now c.review_next.new.rows.conn.now c.loop.review c.review_next.new.review) c.in-Bad.is told.1),
    )

pub returns-in-End-clause-told : goal.returns-in-End-clause-told
returns-in-End-clause-told g c clean =
    let old = state g.S.Store c.loop.rows.conn.now in
    let did = c.in_ok-review_next.ensures in
    let early : HasCleanDisk old = omega (arith, did.survives.clean) in
    let told = did.told clean in
    let before = c.loop.invariant.gone early in (
      told.0.0.is_open,
      gone_all g.S.Store c.args.rows.now.conn.now c.loop.rows.conn.now c.review_next.new.rows.conn.now c.loop.review c.review_next.new.review before.1 (before.0 told.0.0.was_open).1
          (subst (Reviews g.S.Store c.loop.rows.conn.now c.review_next.new.rows.conn.now c.loop.review c.review_next.new.review) c.in-End.is told.1),
    )

pub returns-clause-leaves : goal.returns-clause-leaves
returns-clause-leaves g c clean =
    stays_leaves (state g.S.Store c.args.rows.now.conn.now) (state g.S.Store c.loop.rows.conn.now) (c.loop.invariant.gone clean).0
