-- The predecessors are taken up to the first that isn't.
use Rattle.std.proofs.Common.{sym, ◌∙◌, arith}
use Rattle.std.proofs.lemmas.Bool.{false≢true}
use Rattle.plan_net.specs.Network.{IsArc}
use Rattle.plan_net.specs.Placed.{IsPlaced, IsOpen}
use Rattle.plan_net.proofs.RisingLemmas.{least_of_rising, each_of_rising}
use Rattle.plan_sgs.proofs.eligibility.open_pred.Goals as goal

pub returns-then-not-taken-i : goal.returns-then-not-taken-i
returns-then-not-taken-i c =
    least_of_rising (λ i. IsArc c.args.network.now i c.args.j)
    (IsOpen c.args.taken.now) c.preds-i-items.result.now c.loop-i.i-index c.preds-i-items.ensures.exact
    c.loop-i-test.true c.if-not-taken-i.true
    (λ k before is_open. false≢true (sym is_open ∙ c.loop-i.invariant k before))

pub returns : goal.returns
returns c =
    each_of_rising (λ i. IsArc c.args.network.now i c.args.j) (IsPlaced c.args.taken.now) c.preds-i-items.result.now c.preds-i-items.ensures.exact
    (λ k within. c.loop-i.invariant k (omega (arith, c.loop-i-test.false, within)))
