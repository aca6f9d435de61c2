use Rattle.std.proofs.Common.{◌≡◌, ◌∙◌, List, sym, ap, subst, map, IfOk}
use Rattle.std.specs.List.{AllByRecursion}
use Rattle.plan_rows.specs.declared.row_tests.other_rows.Beside.{Beside}
use Rattle.plan_rows.specs.declared.rows.CodeRow.{CodeRow}
use Rattle.plan_rows.specs.declared.tables.Tables.{Tables}
use Rattle.plan_rows.specs.declared.tables.records.DeskRecord.{DeskRecord}
use Rattle.plan_rows.specs.declared.tables.records.BindRecord.{BindRecord}
use Rattle.plan_rows.specs.declared.tables.records.LagRecord.{LagRecord}
use Rattle.plan_rows.specs.World.{Digest, Plan, World}
use Rattle.plan_rows.specs.Books.{published_in}
use Rattle.plan_rows.specs.Rules.{IsWorld, IsPlanRow}
use Rattle.plan_rows.specs.RowTests.{Tells}
use Rattle.plan_rows.specs.Tables.{world_kept, world_beside, desk_kept, plan_kept, bind_kept, lag_kept}
use Rattle.plan_rows.specs.PlanReview.{HasReviewed}
use Rattle.plan_rows.proofs.ReviewLemmas.{match_true, match_false}
use Rattle.plan_rows.proofs.row_tests.whole.is_world.Goals as goal

abbrev made : Digest → List CodeRow → List DeskRecord → List Plan → List BindRecord → List LagRecord → World
made office codes desks plans binds lags = record {
  office = office;
  published = map published_in codes;
  desks = map desk_kept desks;
  plans = plans;
  binds = map bind_kept binds;
  lags = map lag_kept lags;
}

-- the rows that are lent are those of the tables
lent : (t : Tables) (codes : List CodeRow) (desks : List DeskRecord) (binds : List BindRecord)
    (lags : List LagRecord) → codes ≡ t.published.items → desks ≡ t.desks.items → binds ≡ t.binds.items →
    lags ≡ t.lags.items
    → made t.office codes desks (map plan_kept t.plans.items) binds lags ≡ world_kept t
lent t codes desks binds lags a b d e = λ i. made t.office (a i) (b i) (map plan_kept t.plans.items) (d i) (e i)

pub returns-then-not-branch : goal.returns-then-not-branch
returns-then-not-branch c = λ world.
    match_false (HasReviewed (map plan_kept c.as_slice-5.result.now) c.review_all.new.review)
    (AllByRecursion IsPlanRow (map plan_kept c.as_slice-5.result.now) → ⊥) c.if-not-branch.true
    c.in_ok-review_all.ensures.told
    (subst (λ l. AllByRecursion IsPlanRow (map plan_kept l)) (sym c.as_slice-5.ensures.value) world.plans)

pub returns : goal.returns
returns c =
    let t = c.args.tables.now in
    let plans = map plan_kept t.plans.items in
    let reviewed = subst (λ l. HasReviewed (map plan_kept l) c.review_all.new.review) c.as_slice-5.ensures.value
    (match_true (HasReviewed (map plan_kept c.as_slice-5.result.now) c.review_all.new.review)
    (AllByRecursion IsPlanRow (map plan_kept c.as_slice-5.result.now) → ⊥) c.if-not-branch.false
    c.in_ok-review_all.ensures.told) in
    let from : world_beside c.review_all.new.review.beside plans ≡ made t.office c.as_slice.result.now c.as_slice-2.result.now plans c.as_slice-3.result.now c.as_slice-4.result.now =
    ap (λ (b : Beside). world_beside b plans) (c.in_ok-review_all.ensures.same ∙ c.in_ok-review.ensures.beside) in
    subst (λ w. IfOk c.is_world.result (λ good. Tells good (IsWorld w)))
    (from ∙ lent t c.as_slice.result.now c.as_slice-2.result.now c.as_slice-3.result.now
    c.as_slice-4.result.now c.as_slice.ensures.value c.as_slice-2.ensures.value c.as_slice-3.ensures.value
    c.as_slice-4.ensures.value)
    (c.is_world.ensures plans reviewed)
