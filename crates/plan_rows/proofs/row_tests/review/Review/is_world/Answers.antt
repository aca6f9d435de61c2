use Rattle.std.proofs.Common.{sym, subst}
use Rattle.std.specs.List.{AllByRecursion}
use Rattle.plan_rows.specs.Tables.{world_beside}
use Rattle.plan_rows.specs.PlanReview.{IsStruck, SomeLeft, AreSeen, lag_key_of}
use Rattle.plan_rows.proofs.RowTestLemmas.{tells_same, tells_true, tells_false}
use Rattle.plan_rows.proofs.ReviewLemmas.{match_true, match_false, on_arcs, off_arcs, seen_good, world_of_parts, parts_of_world, arcs_of_world, keys_of_world}
use Rattle.plan_rows.proofs.row_tests.review.Review.is_world.Goals as goal

pub returns-then-not-are_struck : goal.returns-then-not-are_struck
returns-then-not-are_struck c = λ plans it world.
    let keys = c.args.self.now.pending.keys in
    let lags = c.args.self.now.beside.lags.now in
    off_arcs plans keys lags it.pending
    (match_false (AllByRecursion (λ row. IsStruck keys (lag_key_of row)) lags) (SomeLeft lag_key_of keys lags) c.if-not-are_struck.true c.are_struck.ensures)
    (arcs_of_world (world_beside c.args.self.now.beside plans) world)

pub returns-then-not-branch : goal.returns-then-not-branch
returns-then-not-branch c = λ plans it world.
    tells_false _ c.if-not-branch.true (c.in_ok-keys_differ.ensures plans (subst (AreSeen plans) (sym c.as_slice.ensures.value) it.seen))
    (keys_of_world (world_beside c.args.self.now.beside plans) world)

pub returns : goal.returns
returns c = λ plans it.
    let w = world_beside c.args.self.now.beside plans in
    let keys = c.args.self.now.pending.keys in
    let lags = c.args.self.now.beside.lags.now in
    let apart = tells_true _ c.if-not-branch.false (c.in_ok-keys_differ.ensures plans (subst (AreSeen plans) (sym c.as_slice.ensures.value) it.seen)) in
    let on = on_arcs plans keys lags it.pending
    (match_true (AllByRecursion (λ row. IsStruck keys (lag_key_of row)) lags) (SomeLeft lag_key_of keys lags) c.if-not-are_struck.false c.are_struck.ensures) in
    tells_same (world_of_parts w c.known_digest.ensures apart (seen_good plans c.args.self.now.plans.items it.seen) on) (parts_of_world w) c.rows_are_good.result
    (c.rows_are_good.ensures plans (subst (AreSeen plans) (sym c.as_slice-3.ensures.value) it.seen))
