use Rattle.std.proofs.Common.{refl}
use Rattle.plan_rows.specs.World.{same_text, is_plan, is_bind, is_lag}
use Rattle.plan_rows.specs.Books.{published_in}
use Rattle.plan_rows.specs.Tables.{desk_kept, head_seen, bind_kept, lag_kept}
use Rattle.plan_rows.proofs.RowTestLemmas.{tells_same, tells_true, tells_false}
use Rattle.plan_rows.proofs.KeyedLemmas.{text_key, plan_key, bind_key, lag_key, tells_keys, told_as}
use Rattle.plan_rows.proofs.ReviewLemmas.{seen_apart}
use Rattle.plan_rows.proofs.row_tests.keyed.keys_differ.Goals as goal

pub returns-then-not-branch : goal.returns-then-not-branch
returns-then-not-branch c = λ known are keys.
    tells_false _ c.if-not-branch.true (tells_keys published_in (λ a b. same_text a.code b.code) (λ row. ((published_in row).code, 0, 0, 0))
    (λ a b. text_key (published_in a).code (published_in b).code) c.args.beside.now.published.now refl c.in_ok-all_differ.field-0 c.in_ok-all_differ.ensures) keys.codes

pub returns-then-not-branch-2 : goal.returns-then-not-branch-2
returns-then-not-branch-2 c = λ known are keys.
    tells_false _ c.if-not-branch-2.true (tells_keys desk_kept (λ a b. same_text a.desk b.desk) (λ row. ((desk_kept row).desk, 0, 0, 0))
    (λ a b. text_key (desk_kept a).desk (desk_kept b).desk) c.args.beside.now.desks.now refl c.in_ok-all_differ-2.field-0 c.in_ok-all_differ-2.ensures) keys.desks

pub returns-then-not-branch-3 : goal.returns-then-not-branch-3
returns-then-not-branch-3 c = λ known are keys.
    tells_false _ c.if-not-branch-3.true (seen_apart known c.args.plans.now are _ (tells_keys head_seen (λ a b. is_plan a.desk a.n b) (λ row. ((head_seen row).desk, (head_seen row).n, 0, 0))
    (λ a b. plan_key (head_seen a).desk (head_seen b).desk a.n b.n) c.args.plans.now refl c.in_ok-all_differ-3.field-0 c.in_ok-all_differ-3.ensures)) keys.plans

pub returns-then-not-branch-4 : goal.returns-then-not-branch-4
returns-then-not-branch-4 c = λ known are keys.
    tells_false _ c.if-not-branch-4.true (tells_keys bind_kept (λ a b. is_bind a.desk a.n a.place b) (λ row. ((bind_kept row).desk, (bind_kept row).n, (bind_kept row).place, 0))
    (λ a b. bind_key (bind_kept a).desk (bind_kept b).desk a.n b.n a.place b.place) c.args.beside.now.binds.now refl c.in_ok-all_differ-4.field-0 c.in_ok-all_differ-4.ensures) keys.binds

pub returns : goal.returns
returns c = λ known are.
    let codes = tells_true _ c.if-not-branch.false (tells_keys published_in (λ a b. same_text a.code b.code) (λ row. ((published_in row).code, 0, 0, 0))
    (λ a b. text_key (published_in a).code (published_in b).code) c.args.beside.now.published.now refl c.in_ok-all_differ.field-0 c.in_ok-all_differ.ensures) in
    let desks = tells_true _ c.if-not-branch-2.false (tells_keys desk_kept (λ a b. same_text a.desk b.desk) (λ row. ((desk_kept row).desk, 0, 0, 0))
    (λ a b. text_key (desk_kept a).desk (desk_kept b).desk) c.args.beside.now.desks.now refl c.in_ok-all_differ-2.field-0 c.in_ok-all_differ-2.ensures) in
    let plans = tells_true _ c.if-not-branch-3.false
    (seen_apart known c.args.plans.now are _ (tells_keys head_seen (λ a b. is_plan a.desk a.n b)
    (λ row. ((head_seen row).desk, (head_seen row).n, 0, 0))
    (λ a b. plan_key (head_seen a).desk (head_seen b).desk a.n b.n) c.args.plans.now refl c.in_ok-all_differ-3.field-0 c.in_ok-all_differ-3.ensures)) in
    let binds = tells_true _ c.if-not-branch-4.false (tells_keys bind_kept (λ a b. is_bind a.desk a.n a.place b) (λ row. ((bind_kept row).desk, (bind_kept row).n, (bind_kept row).place, 0))
    (λ a b. bind_key (bind_kept a).desk (bind_kept b).desk a.n b.n a.place b.place) c.args.beside.now.binds.now refl c.in_ok-all_differ-4.field-0 c.in_ok-all_differ-4.ensures) in
    told_as (λ b t. tells_same (λ lags. record { codes = codes; desks = desks; plans = plans; binds = binds; lags = lags }) (λ keys. keys.lags) b
    (tells_keys lag_kept (λ a b. is_lag a.desk a.n a.source a.target b) (λ row. ((lag_kept row).desk, (lag_kept row).n, (lag_kept row).source, (lag_kept row).target))
    (λ a b. lag_key (lag_kept a).desk (lag_kept b).desk a.n b.n a.from b.from a.to b.to) c.args.beside.now.lags.now refl b t)) c.all_differ-5.result c.all_differ-5.ensures
