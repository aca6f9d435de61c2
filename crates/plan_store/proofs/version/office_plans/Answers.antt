use Rattle.std.proofs.Common.{◌≡◌, ◌∙◌, List, Result, Ok, Err, IfOk, ap, subst, map}
use Rattle.std.specs.Prelude.{IsErrAnd}
use Rattle.sqlite.specs.Held.{state}
use Rattle.plan_rows.specs.declared.row_tests.other_rows.Beside.{Beside}
use Rattle.plan_rows.specs.declared.rows.CodeRow.{CodeRow}
use Rattle.plan_rows.specs.declared.tables.records.DeskRecord.{DeskRecord}
use Rattle.plan_rows.specs.declared.tables.records.BindRecord.{BindRecord}
use Rattle.plan_rows.specs.declared.tables.records.LagRecord.{LagRecord}
use Rattle.plan_rows.specs.Books.{published_in}
use Rattle.plan_rows.specs.Tables.{world_beside, desk_kept, bind_kept, lag_kept}
use Rattle.plan_rows.specs.World.{Digest, Plan, World}
use Rattle.plan_store.specs.declared.untrusted_tables.OtherRows.{OtherRows}
use Rattle.plan_store.specs.TableTests.{world_others}
use Rattle.plan_store.specs.PlanReview.{ReviewsPlans}
use Rattle.plan_store.proofs.VersionLemmas.{judged, told, untold, looks_nowhere}
use Rattle.plan_store.proofs.TableTestLemmas.{looks_again}
use Rattle.plan_store.proofs.version.office_plans.Goals as goal

abbrev made : Digest → List CodeRow → List DeskRecord → List Plan → List BindRecord → List LagRecord → World
made office codes desks plans binds lags = record {
  office = office;
  published = map published_in codes;
  desks = map desk_kept desks;
  plans = plans;
  binds = map bind_kept binds;
  lags = map lag_kept lags;
}

-- the rows that are lent are those that were read
lent : (it : OtherRows) (codes : List CodeRow) (desks : List DeskRecord) (binds : List BindRecord)
    (lags : List LagRecord) → codes ≡ it.published.items → desks ≡ it.desks.items → binds ≡ it.binds.items →
    lags ≡ it.lags.items
    → (plans : List Plan) → made it.office codes desks plans binds lags ≡ world_others it plans
lent it codes desks binds lags a b d e plans = λ i. made it.office (a i) (b i) plans (d i) (e i)

-- an error makes no claim
if_err : {X E : Type 0} (Q : E → Type 0) (P : X → Type 0) (r : Result X E) → IsErrAnd r Q → IfOk r P
if_err Q P (Ok x) none = absurd none
if_err Q P (Err e) some = tt

pub returns-in_err-review : goal.returns-in_err-review
returns-in_err-review g c = looks_nowhere c.args.layout (state g.S.Store c.args.conn.now) c.requires.ready _ _ (if_err _ _ c.from_residual.result c.from_residual.ensures.1)

pub returns-in_err-review_plans : goal.returns-in_err-review_plans
returns-in_err-review_plans g c = looks_again c.args.layout (state g.S.Store c.args.conn.now)
    (state g.S.Store c.review_plans.new.conn) c.review_plans.result _ _ _ c.review_plans.ensures.looks
    (if_err _ _ c.from_residual-in_err-review_plans.result c.from_residual-in_err-review_plans.ensures.1)

pub returns-then-not-branch : goal.returns-then-not-branch
returns-then-not-branch g c =
    let old = state g.S.Store c.args.conn.now in
    let new = state g.S.Store c.review_plans.new.conn in
    let review = c.review_plans.new.review in
    judged c.args.layout old new c.requires.ready c.args.others.now c.requires.others c.in_ok-review_plans.field-0 (ReviewsPlans (old.now.trees 5) review) _
    (λ laid holds h. untold c.args.layout old laid c.args.others.now holds review (subst (ReviewsPlans (old.now.trees 5) review) c.if-not-branch.true h)) c.in_ok-review_plans.ensures.looks

pub returns-in_err-finish : goal.returns-in_err-finish
returns-in_err-finish g c = looks_again c.args.layout (state g.S.Store c.args.conn.now)
    (state g.S.Store c.review_plans.new.conn) c.review_plans.result _ _ _ c.review_plans.ensures.looks
    (if_err _ _ c.from_residual-in_err-finish.result c.from_residual-in_err-finish.ensures.1)

pub returns : goal.returns
returns g c =
    let old = state g.S.Store c.args.conn.now in
    let new = state g.S.Store c.review_plans.new.conn in
    let review = c.review_plans.new.review in
    let it = c.args.others.now in
    let from : (plans : List Plan) → world_beside review.review.beside plans ≡ made it.office c.as_slice.result.now c.as_slice-2.result.now plans c.as_slice-3.result.now c.as_slice-4.result.now =
    λ plans. ap (λ (b : Beside). world_beside b plans) (c.review_plans.ensures.same ∙ c.in_ok-review.ensures.beside) in
    let whole : (plans : List Plan) → world_beside review.review.beside plans ≡ world_others it plans =
    λ plans. from plans ∙ lent it c.as_slice.result.now c.as_slice-2.result.now c.as_slice-3.result.now
    c.as_slice-4.result.now c.as_slice.ensures.value c.as_slice-2.ensures.value c.as_slice-3.ensures.value
    c.as_slice-4.ensures.value plans in
    judged c.args.layout old new c.requires.ready it c.requires.others c.in_ok-review_plans.field-0 (ReviewsPlans (old.now.trees 5) review) _
    (λ laid holds h. told c.args.layout old laid it holds review whole c.in_ok-finish.field-0
    c.in_ok-finish.ensures (subst (ReviewsPlans (old.now.trees 5) review) c.if-not-branch.false h))
    c.in_ok-review_plans.ensures.looks
