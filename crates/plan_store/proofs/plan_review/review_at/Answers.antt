use Rattle.std.proofs.Common.{◌∙◌, refl, sym, ap, subst, option_copied}
use Rattle.plan_store.specs.declared.plan_review.Next.TheVariants.{Good, Bad, End}
use Rattle.plan_store.specs.PlanReview.{ReviewsRow, ComesNext}
use Rattle.plan_store.proofs.plan_review.review_at.Goals as goal

pub returns-in_default-clause-told : goal.returns-in_default-clause-told
returns-in_default-clause-told g c = λ plans it.
    subst (λ o. ComesNext o plans c.args.review.now End) (sym (ap option_copied c.in_default.is) ∙ c.get.ensures) (refl, it)

pub returns-then-branch-clause-told : goal.returns-then-branch-clause-told
returns-then-branch-clause-told g c = λ plans it.
    subst (λ o. ComesNext o plans c.review_row.new.review Good) (sym (ap option_copied c.in-Some.is) ∙ c.get.ensures)
    (subst (ReviewsRow c.in-Some.row.now plans c.review_row.new.review) c.if-branch.true (c.in_ok-review_row.ensures.told plans it))

pub returns-else-branch-clause-told : goal.returns-else-branch-clause-told
returns-else-branch-clause-told g c = λ plans it.
    subst (λ o. ComesNext o plans c.review_row.new.review Bad) (sym (ap option_copied c.in-Some.is) ∙ c.get.ensures)
    (subst (ReviewsRow c.in-Some.row.now plans c.review_row.new.review) c.if-branch.false (c.in_ok-review_row.ensures.told plans it))
