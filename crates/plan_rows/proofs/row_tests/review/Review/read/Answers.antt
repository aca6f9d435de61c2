use Rattle.std.proofs.Common.{sym, subst, ◌++◌, ◌∷◌, []}
use Rattle.plan_rows.specs.Tables.{plan_kept}
use Rattle.plan_rows.specs.RowTests.{PlanTold}
use Rattle.plan_rows.specs.Plans.{HasPlaces}
use Rattle.plan_rows.specs.PlanReview.{AreSeen}
use Rattle.plan_rows.proofs.RowTestLemmas.{has_places}
use Rattle.plan_rows.proofs.ReviewLemmas.{pending_more, seen_more}
use Rattle.plan_rows.proofs.row_tests.review.Review.read.Goals as goal

pub returns-clause-told : goal.returns-clause-told
returns-clause-told c = λ plans it.
    let plan = plan_kept c.args.row.now in
    let told = subst (PlanTold plan) c.in-Some.is c.in_ok-file.ensures in
    let places = subst (HasPlaces plan.kind plan.name plan.body) (sym c.in_ok-seen.ensures.places) (has_places plan.kind plan.name plan.body c.in-Some.file told.1) in (
      told.0,
      record {
        seen = subst (AreSeen (plans ++ plan ∷ [])) (sym c.in_ok-push.ensures.items)
            (seen_more plans c.args.self.now.plans.items plan _ it.seen (record { row = told.0; head = c.in_ok-seen.ensures.head; places = places }));
        owners = it.owners;
        pending = λ q some. pending_more plans plan c.args.self.now.pending.keys c.strike.new.pending.keys q (it.pending q some) (c.strike.ensures q some);
      },
    )
