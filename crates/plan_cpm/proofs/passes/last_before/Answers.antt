use Rattle.std.proofs.Common.{ℕ, ◌≡◌, ◌+◌, ◌-◌, ◌≤◌, ◌<◌, length, get_or, ap, arith}
use Rattle.std.proofs.lemmas.List.Elements.{Contains-get_or}
use Rattle.plan_net.specs.Network.{IsArc, lag_of}
use Rattle.plan_net.proofs.LagLemmas.{lag_in_place}
use Rattle.plan_net.proofs.RisingLemmas.{each_of_rising}
use Rattle.plan_cpm.proofs.StepLemmas.{greatest_more}
use Rattle.plan_cpm.proofs.passes.last_before.Goals.{After-preds-i-items}
use Rattle.plan_cpm.proofs.passes.last_before.Goals as goal

-- the lag of each predecessor is at its index
in_place : (c : After-preds-i-items) (k : ℕ) → k < length c.preds-i-items.result.now →
    (k < length c.lags_into-lags.result.now) × (get_or c.lags_into-lags.result.now k 0 ≡ lag_of
    c.args.network.now (get_or c.preds-i-items.result.now k 0) c.args.j)
in_place c k = lag_in_place c.args.network.now c.args.j c.preds-i-items.result.now c.lags_into-lags.result.now
    k (c.lags_into-lags.ensures.value c.preds-i-items.result.now c.preds-i-items.ensures.exact)

pub bounds-lags-k : goal.bounds-lags-k
bounds-lags-k c = (in_place (goal.at.bounds-lags-k c).After-preds-i-items c.loop-k.k c.loop-k-test.true).0

pub loop-k-preserved : goal.loop-k-preserved
loop-k-preserved c =
    let items = c.preds-i-items.result.now in
    let value = (in_place (goal.at.loop-k-preserved c).After-preds-i-items c.loop-k.k c.loop-k-test.true).1 in
    let arc = (c.preds-i-items.ensures.exact.exact (get_or items c.loop-k.k 0)).0 (Contains-get_or items c.loop-k.k 0 c.loop-k-test.true) in
    let more = greatest_more (λ i. IsArc c.args.network.now i c.args.j)
    (λ i. get_or c.args.finishes.now (i - 1) 0 + lag_of c.args.network.now i c.args.j) items c.loop-k.k
    c.loop-k.latest (get_or c.args.finishes.now
    (get_or items c.loop-k.k 0 - 1) 0 + get_or c.lags_into-lags.result.now c.loop-k.k 0)
    c.max-latest.result c.max-latest.ensures arc
    (ap (λ (w : ℕ). get_or c.args.finishes.now (get_or items c.loop-k.k 0 - 1) 0 + w) value) c.loop-k.invariant.above c.loop-k.invariant.reached in
    record { above = more.0; reached = more.1 }

pub returns-clause-above : goal.returns-clause-above
returns-clause-above c =
    each_of_rising (λ i. IsArc c.args.network.now i c.args.j)
    (λ i. get_or c.args.finishes.now (i - 1) 0 + lag_of c.args.network.now i c.args.j ≤ c.loop-k.latest)
    c.preds-i-items.result.now c.preds-i-items.ensures.exact
    (λ k within. c.loop-k.invariant.above k (omega (arith, c.loop-k-test.false)))
