use Rattle.std.proofs.Common.{◌≡◌, true, refl}
use Rattle.plan_rows.specs.Rules.{IsBindRow, is_published_row}
use Rattle.plan_rows.specs.Names.{is_from_to}
use Rattle.plan_rows.specs.Books.{published_in}
use Rattle.plan_rows.specs.Tables.{world_beside, desk_kept, bind_kept, lag_kept}
use Rattle.plan_rows.specs.RowTests.{IsDeskOf}
use Rattle.plan_rows.proofs.RowTestLemmas.{tells_same, tells_true, tells_false}
use Rattle.plan_rows.proofs.TestedLemmas.{all_map, map_all, good_told, good_untold}
use Rattle.plan_rows.proofs.ReviewLemmas.{seen_owned}
use Rattle.plan_rows.proofs.row_tests.tested.rows_are_good.Goals as goal

pub returns-then-not-all_good : goal.returns-then-not-all_good
returns-then-not-all_good c = λ known are good. good_untold published_in
    (λ row. is_published_row row ≡ true) c.args.beside.now.published.now refl
    (c.all_good.ensures known are) c.if-not-all_good.true good.published

pub returns-then-not-all_good-2 : goal.returns-then-not-all_good-2
returns-then-not-all_good-2 c = λ known are good. good_untold desk_kept
    (IsDeskOf (world_beside c.args.beside.now known)) c.args.beside.now.desks.now refl
    (c.all_good-2.ensures known are) c.if-not-all_good-2.true good.desks

pub returns-then-not-all_good-3 : goal.returns-then-not-all_good-3
returns-then-not-all_good-3 c = λ known are good. tells_false _ c.if-not-all_good-3.true
    (seen_owned (world_beside c.args.beside.now known) known c.args.plans.now are _
    (c.all_good-3.ensures known are)) good.plans

pub returns-then-not-all_good-4 : goal.returns-then-not-all_good-4
returns-then-not-all_good-4 c = λ known are good. good_untold bind_kept
    (IsBindRow (world_beside c.args.beside.now known)) c.args.beside.now.binds.now refl
    (c.all_good-4.ensures known are) c.if-not-all_good-4.true good.binds

pub returns : goal.returns
returns c = λ known are.
    tells_same (λ last. record {
      published = good_told published_in (λ row. is_published_row row ≡ true) c.args.beside.now.published.now refl (c.all_good.ensures known are) c.if-not-all_good.false;
      desks = good_told desk_kept (IsDeskOf (world_beside c.args.beside.now known)) c.args.beside.now.desks.now refl (c.all_good-2.ensures known are) c.if-not-all_good-2.false;
      plans = tells_true _ c.if-not-all_good-3.false (seen_owned (world_beside c.args.beside.now known) known c.args.plans.now are _ (c.all_good-3.ensures known are));
      binds = good_told bind_kept (IsBindRow (world_beside c.args.beside.now known)) c.args.beside.now.binds.now refl (c.all_good-4.ensures known are) c.if-not-all_good-4.false;
      lags = all_map lag_kept (λ lag. is_from_to 1 10000 lag.lag ≡ true) c.args.beside.now.lags.now last;
    }) (λ good. map_all lag_kept (λ lag. is_from_to 1 10000 lag.lag ≡ true) c.args.beside.now.lags.now good.lags) c.all_good-5.result
    (c.all_good-5.ensures known are)
