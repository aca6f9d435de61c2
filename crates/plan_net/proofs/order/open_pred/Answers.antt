use Rattle.std.proofs.Common.{arith, sym, ◌∙◌}
use Rattle.std.proofs.lemmas.Bool.{false≢true}
use Rattle.plan_net.specs.Network.{IsArc}
use Rattle.plan_net.specs.Placed.{IsPlaced, IsOpen}
use Rattle.plan_net.proofs.RisingLemmas.{least_of_rising, each_of_rising}
use Rattle.plan_net.proofs.order.open_pred.Goals as goal

pub returns-then-not-placed-i-clause-some : goal.returns-then-not-placed-i-clause-some
returns-then-not-placed-i-clause-some c =
    least_of_rising (λ i. IsArc c.args.arcs.now i c.args.j)
    (IsOpen c.args.placed.now) c.preds-i-items.result.now c.loop-i.i-index c.preds-i-items.ensures.exact
    c.loop-i-test.true c.if-not-placed-i.true
    (λ k before is_open. false≢true (sym is_open ∙ c.loop-i.invariant k before))

pub returns-clause-none : goal.returns-clause-none
returns-clause-none c =
    each_of_rising (λ i. IsArc c.args.arcs.now i c.args.j) (IsPlaced c.args.placed.now) c.preds-i-items.result.now c.preds-i-items.ensures.exact
    (λ k within. c.loop-i.invariant k (omega (arith, c.loop-i-test.false)))
