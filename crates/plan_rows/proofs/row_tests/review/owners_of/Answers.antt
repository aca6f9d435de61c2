use Rattle.std.proofs.Common.{◌≡◌, arith, drop, subst, sym, ◌∙◌}
use Rattle.std.specs.List.{position_from}
use Rattle.std.specs.HashMap.{get_by}
use Rattle.std.proofs.lemmas.Iterator.Adapters.{position_from-zero}
use Rattle.plan_rows.specs.RowTests.{shown_key, same_key}
use Rattle.plan_rows.specs.PlanReview.{owner_key_of}
use Rattle.plan_rows.proofs.LookupLemmas.{placed_more}
use Rattle.plan_rows.proofs.row_tests.review.owners_of.Goals as goal

pub loop-i-preserved : goal.loop-i-preserved
loop-i-preserved c =
    placed_more owner_key_of c.args.lags.now c.loop-i.i c.index-lags-i.result c.owner_key.result c.loop-i.places c.insert.new.self (omega arith) (omega arith) c.index-lags-i.is c.owner_key.ensures
    c.in_ok-insert.ensures.updates.0 c.loop-i.invariant

pub returns : goal.returns
returns c = λ q.
    let none : c.loop-i.i ≡ 0 = omega arith in
    subst (λ n. get_by (λ k. same_key (shown_key q) (shown_key k)) c.loop-i.places ≡ position_from
    (λ row. same_key (shown_key q) (owner_key_of row)) n (drop n c.args.lags.now)) none
    (c.loop-i.invariant q)
    ∙ sym (position_from-zero (λ row. same_key (shown_key q) (owner_key_of row)) c.args.lags.now)
