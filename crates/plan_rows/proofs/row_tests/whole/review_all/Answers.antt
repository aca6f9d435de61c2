use Rattle.std.proofs.Common.{◌∙◌, ◌++◌, ◌∷◌, [], arith, ap, subst, map, take}
use Rattle.plan_rows.specs.Rules.{IsPlanRow}
use Rattle.plan_rows.specs.Tables.{plan_kept}
use Rattle.plan_rows.specs.PlanReview.{HasReviewed}
use Rattle.plan_rows.proofs.RowTestLemmas.{take_all}
use Rattle.plan_rows.proofs.TestedLemmas.{one_bad}
use Rattle.plan_rows.proofs.ReviewLemmas.{match_true, match_false, take_more}
use Rattle.plan_rows.proofs.row_tests.whole.review_all.Goals as goal

pub returns-then-not-branch-clause-told : goal.returns-then-not-branch-clause-told
returns-then-not-branch-clause-told c = λ good.
    let so_far = map plan_kept (take c.loop-plan.plan-index c.args.plans.now) in
    let plan = plan_kept c.plan-item.result in
    one_bad plan_kept IsPlanRow c.args.plans.now c.loop-plan.plan-index c.plan-item.result (omega arith) c.plan-item.is
    (match_false (IsPlanRow plan × HasReviewed (so_far ++ plan ∷ []) c.read.new.self) (IsPlanRow plan → ⊥) c.if-not-branch.true (c.in_ok-read.ensures.told so_far c.loop-plan.invariant.0)) good

pub loop-plan-preserved : goal.loop-plan-preserved
loop-plan-preserved c =
    let so_far = map plan_kept (take c.loop-plan.plan-index c.args.plans.now) in
    let plan = plan_kept c.plan-item.result in
    let more = match_true (IsPlanRow plan × HasReviewed (so_far ++ plan ∷ []) c.read.new.self)
    (IsPlanRow plan → ⊥) c.if-not-branch.false
    (c.in_ok-read.ensures.told so_far c.loop-plan.invariant.0) in (
      subst (λ l. HasReviewed l c.read.new.self)
          (ap (λ r. so_far ++ plan_kept r ∷ []) c.plan-item.is ∙ take_more plan_kept c.args.plans.now c.loop-plan.plan-index _ c.plan-item.result (omega arith) (omega arith)) more.1,
      c.in_ok-read.ensures.same ∙ c.loop-plan.invariant.1,
    )

pub returns-clause-told : goal.returns-clause-told
returns-clause-told c =
    subst (λ l. HasReviewed l c.loop-plan.review) (ap (map plan_kept) (take_all c.loop-plan.plan-index c.args.plans.now (omega arith))) c.loop-plan.invariant.0
