use Rattle.std.proofs.Common.{◌∙◌, sym, arith}
use Rattle.std.proofs.lemmas.Bool.{both_ways}
use Rattle.plan_rows.specs.PlanReview.{IsStruck, lag_key_of}
use Rattle.plan_rows.proofs.TestedLemmas.{all_from_index}
use Rattle.plan_rows.proofs.ReviewLemmas.{left_at, struck_more}
use Rattle.plan_rows.proofs.row_tests.review.are_struck.Goals as goal

pub returns-then-contains : goal.returns-then-contains
returns-then-contains c =
    left_at lag_key_of c.args.pending.now.keys c.args.rows.now c.loop-row.row-index c.row-item.result
    (omega arith) c.row-item.is (c.key.result, c.key.ensures, sym c.contains.ensures ∙ c.if-contains.true)

pub loop-row-preserved : goal.loop-row-preserved
loop-row-preserved c =
    struck_more c.args.pending.now.keys c.args.rows.now c.loop-row.row-index _ c.row-item.result c.key.result (omega arith) c.row-item.is (omega arith) c.key.ensures
    (λ holds. both_ways c.contains.result c.if-contains.false (c.contains.ensures ∙ holds)) c.loop-row.invariant

pub returns : goal.returns
returns c =
    all_from_index (λ row. IsStruck c.args.pending.now.keys (lag_key_of row)) c.args.rows.now (λ k d low. c.loop-row.invariant k d (omega (arith, low)))
