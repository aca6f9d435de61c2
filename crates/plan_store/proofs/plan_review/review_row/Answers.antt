use Rattle.std.proofs.Common.{option_map, subst}
use Rattle.plan_rows.specs.Tables.{plan_kept}
use Rattle.plan_store.specs.Rows.{written_plan}
use Rattle.plan_store.specs.UntrustedRows.{HoldsPlan, TakesRow}
use Rattle.plan_store.proofs.PlanReviewLemmas.{one_told, none_told}
use Rattle.plan_store.proofs.plan_review.review_row.Goals as goal

pub returns-in_ok-read-in-Some-clause-told : goal.returns-in_ok-read-in-Some-clause-told
returns-in_ok-read-in-Some-clause-told c = λ plans it.
    one_told c.args.row.now (plan_kept c.in-Some.plan) plans c.read.new.self c.in_ok-read-in-Some.field-0
    (subst (λ o. TakesRow written_plan HoldsPlan c.args.row.now (option_map plan_kept o)) c.in-Some.is c.in_ok-plan.ensures) (c.in_ok-read-in-Some.ensures.told plans it)

pub returns-in-None-clause-told : goal.returns-in-None-clause-told
returns-in-None-clause-told c = λ plans it.
    none_told c.args.row.now (subst (λ o. TakesRow written_plan HoldsPlan c.args.row.now (option_map plan_kept o)) c.in-None.is c.in_ok-plan.ensures)
